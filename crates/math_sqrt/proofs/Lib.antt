-- Laws that several proofs of this crate cite, and no other crate.
mod StdRoot
