-- How far Steim-1 or Steim-2 reaches, if that is known.
use Rattle.std.specs.Prelude.{ℕ, ℤ, List, Option, IfSome, IsTrue}
use Rattle.msr_base.specs.declared.kinds.Kind.TheVariants.{Steim2}
use Rattle.msr_words.specs.Bounds.{AreNarrowThrough, IsEnd}
use Rattle.msr_check.specs.declared.reach.Reach.{Reach}

-- all differences up to the greatest end of a run of Steim-2 from that start on, and the one after them, are narrow
pub record MeetsNarrow (bytes : ℕ) (samples : List ℤ) (start : ℕ) : Type 0 where
  pub end : ℕ
  pub end_is : IsEnd Steim2 bytes samples start end
  pub narrow : AreNarrowThrough samples start end

-- the greatest end of a run of that kind from that start on; if it is told, Steim-2 meets narrow differences alone
pub record IsReached (bytes : ℕ) (samples : List ℤ) (reach : Reach) : Type 0 where
  pub end_is : IsEnd reach.kind bytes samples reach.start reach.end
  pub narrow : IsTrue reach.narrow → MeetsNarrow bytes samples reach.start

pub record IsKnown (bytes : ℕ) (samples : List ℤ) (known : Option Reach) : Type 0 where
  pub reach : IfSome known (IsReached bytes samples)
