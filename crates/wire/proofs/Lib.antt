-- Laws that several proofs of this crate cite, and those that other crates cite too.
mod Signed
pub mod WritesLaws
