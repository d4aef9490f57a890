-- What an area of frames tells that is filled with a run.
use Rattle.std.proofs.Common.{◌≡◌, ◌<◌, ◌≤◌, ◌+◌, ◌-◌, ◌*◌, ◌/◌, ◌%◌, ◌^◌, ℕ, ℤ, pos, List, Option, length, get_or, w32, FitsSigned, arith, refl, subst}
use Rattle.std.specs.Prelude.{All}
use Rattle.std.proofs.lemmas.List.Elements.{All-get_or}
use Rattle.msr_base.specs.declared.order.Order.TheVariants.{Big}
use Rattle.msr_steim.specs.Area.{CarriesSteim, ReverseAgrees as FramesAgree}
use Rattle.msr_steim.specs.Frames.{frame_bytes}
use Rattle.msr_base.specs.declared.storage.Version.{Version}
use Rattle.msr_base.specs.declared.lengths.Length.{Length}
use Rattle.msr_words.specs.Division.{CanDivide}
use Rattle.msr_filling.specs.Filled.{IsFilledArea}
use Rattle.msr_base.specs.Lengths.{bytes_of}
use Rattle.msr_base.specs.RecordLength.{words_of}
use Rattle.msr_words.specs.Segment.{differences}
use Rattle.msr_words.proofs.DivisionsExist.{can_more}
use Rattle.msr_record.specs.Written.{AreFrames, frame_count}
use Rattle.msr_record.proofs.AreaLemmas.{frames_carry, frames_end, room_for, whole_frames}

module _ (record_length : Length) (size : ℕ) (size_is : size ≡ bytes_of record_length - 64) where
  pub whole_area : size % 64 ≡ 0
  whole_area =
      let whole = whole_frames record_length.exponent record_length.from record_length.to in
      let same : size ≡ 2 ^ record_length.exponent - 64 = omega (arith, size_is, record_length.power) in
      rw same whole.0

  -- for as many words as the record's length allows
  room : words_of (bytes_of record_length) + 2 ≤ 15 * (size / 64)
  room = rw size_is (room_for (bytes_of record_length) record_length.exponent (bytes_of record_length)
      (words_of (bytes_of record_length)) record_length.power refl record_length.from record_length.to (omega arith))

  module _ (version : Version) (before : Option ℤ) (run : List ℤ)
      (fits : CanDivide version (words_of (bytes_of record_length)) (differences before run)) where
    pub can_fill : CanDivide version (15 * (size / 64) - 2) (differences before run)
    can_fill = let r = room in can_more version (words_of (bytes_of record_length)) (15 * (size / 64) - 2)
        (differences before run) (omega arith) fits

    module _ (area : List ℕ) (groups : ℕ) (filled : IsFilledArea version before run (size / 64) area groups) where
      few : groups ≤ words_of (bytes_of record_length)
      few =
          let least = filled.canonical.fewest fits.groups fits.are_groups fits.join in
          let most = fits.few in
          omega (arith, filled.number_is)

      pub few_groups : groups < 2 ^ 32
      few_groups = let f = few in let most = record_length.most in omega arith

      pub frames_written : AreFrames version before run (bytes_of record_length - 64) (frame_count groups) area
      frames_written = record {
        groups = filled.groups;
        canonical = filled.canonical;
        bytes_are = subst (λ n. area ≡ frame_bytes version (get_or run 0 (pos 0))
            (get_or run (length run - 1) (pos 0)) filled.groups (n / 64)) size_is filled.bytes_are;
        frames_are = rw filled.number_is refl;
      }

      module _ (some : 1 ≤ length run) (range : All (FitsSigned w32) run) where
        last_fits : FitsSigned w32 (get_or run (length run - 1) (pos 0))
        last_fits = All-get_or (FitsSigned w32) run (length run - 1) (pos 0) (omega (arith, some)) range

        pub frames_carried : CarriesSteim version Big area run
        frames_carried =
            let f = few in
            let r = room in
            frames_carry version before run filled.groups
            (size / 64) area filled.canonical.are_groups filled.canonical.join
            (omega (arith, filled.number_is)) range last_fits filled.bytes_are

        pub frames_agree : FramesAgree Big area run
        frames_agree =
            let r = room in
            frames_end version run filled.groups (size / 64) area some filled.canonical.are_groups (omega arith)
            (All-get_or (FitsSigned w32) run 0 (pos 0) (omega (arith, some)) range) last_fits filled.bytes_are
