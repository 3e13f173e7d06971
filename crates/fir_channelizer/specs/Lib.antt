pub mod Channelizer
pub mod ChannelizerLaws
