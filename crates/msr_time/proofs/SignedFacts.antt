-- Arithmetic of signed numbers, passed on to the crates above.
pub use Rattle.jiff_core.proofs.SignedLemmas.{signed_arith, signed_casts, one_part, back_small, product_within}
