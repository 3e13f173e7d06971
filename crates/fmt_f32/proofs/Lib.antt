-- Laws that several proofs of this crate cite, and no other crate.
mod Narrowing
mod SizedLaws
mod SingleLaws
