pub mod Normalised
pub mod MetTickets
pub mod WrittenLaws
pub mod FilterLaws
pub mod SlicesLaws
pub mod Sound
pub mod KindLaws
pub mod MirrorLaws
