-- Lemmas that the proofs cite.
mod Written
