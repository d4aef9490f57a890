-- What a packer of blocks knows after each call.
use Rattle.std.proofs.Common.{◌≡◌, ℕ, ◌≤◌, Bool, true, false, ℤ, List, [], ◌++◌, length, Option, Some, None, IsNone, sym, ap, ◌∙◌, subst, append-nil}
use Rattle.msr_words.specs.Fit.{Records, records_of}
use Rattle.msr_words.specs.declared.kinds.Run.{Run}
use Rattle.msr_words.specs.Packing.{IsCanonical}
use Rattle.msr_packer.specs.Blocks.{Holding, LeftAt, Packs, PacksLast, holding_of}
use Rattle.msr_packer.specs.HeldSamples.{GivesPiece, HoldsNeeded, HoldsRest, HoldsSame, HoldsWindow, Stays, pieces_of, runs_of, separators_of}
use Rattle.msr_packer.specs.declared.held.HeldSamples.{HeldSamples}
use Rattle.msr_packer.specs.declared.held.Piece.{Piece}
use Rattle.msr_packer.proofs.PackingsExist.{HasRest}
use Rattle.msr_packer.proofs.Holding.{begins_rest, holds_still, stays_more, window_more}

module _ (records : Records) (samples : List ℤ) (runs : List Run) (separators : List ℕ) where
  -- in records of the packer's form, and back
  pub holds_in : (held : HeldSamples) → records_of held.form ≡ records
      → HoldsWindow records samples runs separators held.samples.items held.offset held.current
      → HoldsRest samples runs separators held
  holds_in held same_form w = subst
      (λ b. HoldsWindow b samples runs separators held.samples.items held.offset held.current) (sym same_form) w

  pub held_in : (held : HeldSamples) → records_of held.form ≡ records → HoldsRest samples runs separators held
      → HoldsWindow records samples runs separators held.samples.items held.offset held.current
  held_in held same_form w = subst
      (λ b. HoldsWindow b samples runs separators held.samples.items held.offset held.current) same_form w

module _ (records : Records) (samples : List ℤ) (runs : List Run) (separators : List ℕ) (old new : HeldSamples) where
  -- ---- a piece was given

  pub packs_next : (ended : Bool) (piece : Option Piece) → GivesPiece old new piece
      → (Stays old.current (length old.samples.items) → Stays new.current (length old.samples.items))
      → Packs records samples runs separators (holding_of old ended)
      → Packs records samples (runs ++ runs_of (pieces_of piece)) (separators ++ separators_of (pieces_of piece))
      (holding_of new ended)
  packs_next ended piece given stays p =
      let same_form = ap records_of given.form ∙ p.of_form in
      record {
        of_form = same_form;
        holds = held_in records samples (runs ++ runs_of (pieces_of piece))
            (separators ++ separators_of (pieces_of piece)) new same_form
            (given.holds samples runs separators (holds_in records samples runs separators old p.of_form p.holds));
        stays = rw given.held (stays p.stays);
        goes_on = p.goes_on;
      }

  pub packs_last_next : (piece : Option Piece) → GivesPiece old new piece
      → PacksLast records samples runs separators (holding_of old false)
      → PacksLast records samples (runs ++ runs_of (pieces_of piece)) (separators ++ separators_of (pieces_of piece))
      (holding_of new false)
  packs_last_next piece given p =
      let same_form = ap records_of given.form ∙ p.of_form in
      record {
        of_form = same_form;
        left = held_in records samples (runs ++ runs_of (pieces_of piece))
            (separators ++ separators_of (pieces_of piece)) new same_form
            (given.holds samples runs separators (holds_in records samples runs separators old p.of_form p.left));
      }

  -- ---- samples were pushed

  pub packs_held : (ended : Bool) → HoldsNeeded old new → Packs records samples runs separators (holding_of old ended)
      → Packs records samples runs separators (holding_of new ended)
  packs_held ended needed p =
      let same_form = ap records_of needed.form ∙ p.of_form in
      record {
        of_form = same_form;
        holds = held_in records samples runs separators new same_form
            (needed.holds samples runs separators (holds_in records samples runs separators old p.of_form p.holds));
        stays = needed.stays p.stays;
        goes_on = p.goes_on;
      }

  -- nothing else changed
  pub packs_same : (ended : Bool) → HoldsSame old new → Packs records samples runs separators (holding_of old ended)
      → Packs records samples runs separators (holding_of new ended)
  packs_same ended same p = record {
    of_form = ap records_of same.form ∙ p.of_form;
    holds = rw (same.held, same.offset, same.current) p.holds;
    stays = rw (same.held, same.current) p.stays;
    goes_on = p.goes_on;
  }

  -- the samples after those that were held
  pub packs_more : (more : List ℤ) (ended : Bool) → 256 ≤ records.bytes → new.form ≡ old.form
      → new.offset ≡ old.offset → new.current ≡ old.current → new.samples.items ≡ old.samples.items ++ more
      → Packs records samples runs separators (holding_of old ended)
      → Packs records (samples ++ more) runs separators (holding_of new ended)
  packs_more more ended enough same offset current items p = record {
    of_form = ap records_of same ∙ p.of_form;
    holds = rw (offset, current, items)
        (window_more records enough samples more runs separators old.samples.items old.offset old.current p.holds
        p.stays);
    stays = rw (current, items) (stays_more old.samples.items more old.current p.stays);
    goes_on = p.goes_on;
  }

  -- ---- all pieces were given

  pub packs_all : (mid : HeldSamples) (piece : Option Piece) → GivesPiece old mid None
      → new.form ≡ mid.form
      → ((samples : List ℤ) (runs : List Run) (separators : List ℕ) → HoldsRest samples runs separators mid
      → IsCanonical (records_of mid.form) samples (runs ++ runs_of (pieces_of piece))
      (separators ++ separators_of (pieces_of piece)))
      → PacksLast records samples runs separators (holding_of old false)
      → PacksLast records samples (runs ++ runs_of (pieces_of piece))
      (separators ++ separators_of (pieces_of piece)) (holding_of new true)
  packs_all mid piece none same canonical p =
      let same_form = ap records_of none.form ∙ p.of_form in
      record {
        of_form = ap records_of same ∙ same_form;
        left = subst (λ b. IsCanonical b samples (runs ++ runs_of (pieces_of piece))
            (separators ++ separators_of (pieces_of piece))) same_form
            (canonical samples runs separators (holds_still old mid samples runs separators none
            (holds_in records samples runs separators old p.of_form p.left)));
      }

-- the same, after the samples were forgotten that no step needs any more
pub packs_pushed : (records : Records) (samples : List ℤ) (runs : List Run) (separators : List ℕ)
    (old held new : HeldSamples)
    (more : List ℤ) (ended : Bool) → HoldsNeeded old held → new.form ≡ held.form
    → new.offset ≡ held.offset → new.current ≡ held.current → new.samples.items ≡ held.samples.items ++ more
    → Packs records samples runs separators (holding_of old ended)
    → Packs records (samples ++ more) runs separators (holding_of new ended)
packs_pushed records samples runs separators old held new more ended needed same offset current items p =
    let q = packs_held records samples runs separators old held ended needed p in
    packs_more records samples runs separators held new more ended
    (subst (λ r. 256 ≤ r.bytes) q.of_form held.form.length.least) same offset current items q

-- no further piece was given
pub all_given : (records : Records) (samples : List ℤ) (runs : List Run) (separators : List ℕ) (piece : Option Piece)
    → IsNone piece → IsCanonical records samples (runs ++ runs_of (pieces_of piece))
    (separators ++ separators_of (pieces_of piece)) → IsCanonical records samples runs separators
all_given records samples runs separators None none canonical =
    subst (λ xs. IsCanonical records samples xs separators) (append-nil runs)
    (subst (λ xs. IsCanonical records samples (runs ++ []) xs) (append-nil separators) canonical)
all_given records samples runs separators (Some piece) none canonical = cc

-- the pieces that were given begin the packing of all samples
pub last_begin : (records : Records) → 256 ≤ records.bytes → (samples : List ℤ) (runs : List Run) (separators : List ℕ)
    (packer : Holding) (ended : Bool) → LeftAt ended records samples runs separators packer
    → HasRest records samples runs separators
last_begin records enough samples runs separators packer false left =
    begins_rest records enough samples runs separators packer.held packer.offset packer.current left
last_begin records enough samples runs separators packer true left =
    record { others = []; places = []; canonical = rw (append-nil runs, append-nil separators) left }
