-- What was written of a day is held against what an earlier walk left of it.
use Rattle.std.proofs.Common.{◌≡◌, ◌⊎◌, ◌<◌, ⊎_elim, ℕ, List, [], refl, sym, ◌∙◌, ap, subst, Result, Ok, Err, Option, None, Some, IsSome, IsSomeAnd, length, option_map, arith}
use Rattle.msr_naming.specs.declared.files.DayFiles.{DayFiles}
use Rattle.msr_naming.proofs.FallingBack.{goes_both}
use Rattle.msr_options.specs.declared.days.DayOptions.{DayOptions}
use Rattle.msr_tool.specs.declared.fault.ToolFault.{ToolFault}
use Rattle.msr_tree.specs.Calls.{Goes}
use Rattle.msr_tree.specs.Folders.{ChangesFiles}
use Rattle.msr_tree.specs.Steps.{File, Path, Step, failures, now, seen}
use Rattle.msr_tree.specs.declared.facts.Facts.{Facts}
use Rattle.msr_tree.proofs.Filing.{changes_more, changes_then, no_fewer, now_kept, ready_kept, seen_kept}
use Rattle.msr_making.specs.Day.{IsReadOrMemory}
use Rattle.msr_making.specs.Ending.{HeldAs, PreparedAs, WritesHeld}
use Rattle.msr_making.specs.Looking.{IsDayLook, IsLookedAt, IsSightAt}
use Rattle.msr_making.specs.Parts.{part_paths}
use Rattle.msr_making.specs.Places.{AreFileNames, DayPaths, paths_of}
use Rattle.msr_making.specs.Shrinking.{HeldAgainst, HeldFor, HoldsAgainst, IsFewer, IsNoFewer, IsSamplesUntold, counts_repacked}
use Rattle.msr_making.specs.Told.{IsRepackOf, IsUnshrunk, LeavesSamples}
use Rattle.msr_making.specs.Writing.{IfSeen, IsOwnOrMade, IsWrittenTo, WritesDay, WrittenAs}
use Rattle.msr_making.specs.declared.answer.DayFault.TheVariants.{CannotOpen, Larger, Misplaced, Tool}
use Rattle.msr_making.specs.declared.answer.Repacked.{Repacked}
use Rattle.msr_making.specs.declared.answer.Stop.{Stop}
use Rattle.msr_making.specs.declared.answer.Stop.TheVariants.{Memory, Refused}
use Rattle.msr_making.specs.declared.looks.DayLook.{DayLook}
use Rattle.msr_making.specs.declared.looks.Sight.{Sight}
use Rattle.msr_making.specs.declared.looks.Sight.TheVariants.{Found, Nothing, Unknown}
use Rattle.msr_making.proofs.Days.{unread_of}
use Rattle.msr_making.proofs.Owns.{more_parts, none_parts}

-- a name that leads to what it led to
sight_by : (path : Path) (old new : List Step) (sight : Sight) → now new path ≡ now old path → IsSightAt path old sight → IsSightAt path new sight
sight_by path old new (Found facts) same at = record {
  regular = λ r. subst (λ (x : Option File). IsSomeAnd x (λ file. facts.bytes ≡ length file.bytes)) (sym same) (at.regular r);
  other = λ o. same ∙ at.other o;
}
sight_by path old new Nothing same at = same ∙ at
sight_by path old new Unknown same at = tt

-- what has bytes was found
found_of : (path : Path) (past : List Step) (sight : Sight) (bytes : List ℕ) → (sight ≡ Unknown → ⊥) → IsSightAt path past sight → seen past path ≡ Some bytes → (facts : Facts) × (sight ≡ Found facts)
found_of path past (Found facts) bytes known at has = (facts, refl)
found_of path past Nothing bytes known at has = let none : seen past path ≡ None = ap (λ found. option_map (λ file. file.bytes) found) at in absurd cc
found_of path past Unknown bytes known at has = absurd (known refl)

module _ (input : Path) (look : DayLook) (files : DayFiles) (asked : DayOptions) where
  abbrev paths : DayPaths
  paths = paths_of input files

  abbrev l : List Path
  l = part_paths files

  -- while files are made beside the names of the day
  module _ (names : AreFileNames input files) (old mid : List Step) (changes : ChangesFiles l old mid) where
    looked_later : IsDayLook paths look old → IsDayLook paths look mid
    looked_later is = let none = none_parts files names.names in record {
      input = sight_by input old mid look.input (now_kept l input old mid (more_parts files input names.own) changes) is.input;
      records = sight_by files.records.path old mid look.records (now_kept l files.records.path old mid none.records changes) is.records;
      report = sight_by files.report.path old mid look.report (now_kept l files.report.path old mid none.report changes) is.report;
      stamp = sight_by files.stamp.path old mid look.stamp (now_kept l files.stamp.path old mid none.stamp changes) is.stamp;
    }

    left_later : (was : ℕ) → LeavesSamples paths was old → LeavesSamples paths was mid
    left_later was left = let none = none_parts files names.names in record {
      report = left.report;
      text = left.text;
      reads = left.reads;
      has_report = seen_kept l files.report.path old mid none.report changes ∙ left.has_report;
      has_records = subst (λ (x : Option (List ℕ)). IsSome x) (sym (seen_kept l files.records.path old mid none.records changes)) left.has_records;
      are = left.are;
    }

    left_earlier : (was : ℕ) → LeavesSamples paths was mid → LeavesSamples paths was old
    left_earlier was left = let none = none_parts files names.names in record {
      report = left.report;
      text = left.text;
      reads = left.reads;
      has_report = sym (seen_kept l files.report.path old mid none.report changes) ∙ left.has_report;
      has_records = subst (λ (x : Option (List ℕ)). IsSome x) (seen_kept l files.records.path old mid none.records changes) left.has_records;
      are = left.are;
    }

    module _ (new : List Step) (at : IsLookedAt paths look old) where
      -- it has no fewer samples
      unshrunk_by : (repacked : Repacked) (bytes : List ℕ) → seen old input ≡ Some bytes → IsNoFewer paths look asked repacked mid → IsUnshrunk asked paths repacked old
      unshrunk_by repacked bytes has few = λ keep was left.
          let found = found_of input old look.input bytes at.known.input at.are.input has in
          let known = at.known.left found.0 found.1 in
          few keep known.0 known.1 was (left_later was left)

      -- or fewer
      shrunk_there : (repacked : Repacked) (records text : List ℕ) (result : Result Repacked Stop) → IsRepackOf asked paths repacked records text old → IsFewer paths asked repacked result mid → HeldAs input files asked result old new
      shrunk_there repacked records text result repack fewer = subst (λ (r : Result Repacked Stop). HeldAs input files asked r old new) (sym fewer.told) (record {
        repacked = repacked;
        records = records;
        text = text;
        repack = repack;
        keep_old = fewer.keep_old;
        left = left_earlier fewer.was fewer.left;
        is = refl;
        fewer = fewer.fewer;
      })

      -- or that could not be told
      untold_there : (repacked : Repacked) (records text : List ℕ) (result : Result Repacked Stop) → IsRepackOf asked paths repacked records text old → IsSamplesUntold result mid new → HeldAs input files asked result old new
      untold_there repacked records text result repack untold = subst (λ (r : Result Repacked Stop). HeldAs input files asked r old new) (sym untold.told)
          (⊎_elim
          (λ e. subst (λ (s : Stop). PreparedAs input files asked (Err s) old new) (sym e) tt)
          (λ rest. ⊎_elim
          (λ is. subst (λ (s : Stop). PreparedAs input files asked (Err s) old new) (sym is.1) (unread is.0 is.2))
          (λ failed. subst (λ (s : Stop). PreparedAs input files asked (Err s) old new) (sym failed.1)
          (let few = no_fewer l old mid changes in let more = failed.2 in omega arith))
          rest)
          untold.why)
        where
          unread : (fault : ToolFault) → IsReadOrMemory fault → PreparedAs input files asked (Err (Refused (Tool fault))) old new
          unread fault is = let rest = unread_of asked.options repack.input records text repacked fault repack.answers is in
              record { input = repack.input; written = records; told = rest.0; has_input = repack.has_input; answers = rest.1 }

      -- what was held against that
      held_of : (repacked : Repacked) (records text : List ℕ) (written result : Result Repacked Stop) → IsRepackOf asked paths repacked records text old
          → (result ≡ written → IsUnshrunk asked paths repacked old → HeldAs input files asked result old new) → HeldFor paths look asked repacked written result mid new → HeldAs input files asked result old new
      held_of repacked records text written result repack well held = ⊎_elim
          (λ same. well same.0 (unshrunk_by repacked repack.input repack.has_input same.1))
          (λ rest. ⊎_elim (λ fewer. shrunk_there repacked records text result repack fewer) (λ untold. untold_there repacked records text result repack untold) rest)
          held

      held_said : (written result : Result Repacked Stop) → ChangesFiles [] mid new → WrittenAs (IfSeen input old) (λ side. IsOwnOrMade side old mid × ((look.input ≡ Unknown) ⊎ (failures old < failures mid))) files asked (λ bytes. length bytes) written mid
          → HeldAgainst paths look asked (counts_repacked written) written result mid new → HeldAs input files asked result old new
      held_said (Ok repacked) result still wrote held = held_of repacked wrote.2.records wrote.2.text (Ok repacked) result
          (record { input = wrote.0; has_input = wrote.1; answers = wrote.2.fit.counted; belong = wrote.2.fit.belong; bytes_read = wrote.2.fit.read })
          (λ same unshrunk. subst (λ (r : Result Repacked Stop). HeldAs input files asked r old new) (sym same) (record { wrote = (wrote.0, wrote.1, later); unshrunk = unshrunk }))
          held
        where
          later : IsWrittenTo files asked (length wrote.0) wrote.0 new repacked
          later = record {
            records = wrote.2.records;
            text = wrote.2.text;
            fit = wrote.2.fit;
            ready = λ apart. let ready = wrote.2.ready apart in record {
              records_are = ready_kept [] files.records.part wrote.2.records mid new tt still ready.records_are;
              report_is = ready_kept [] files.report.part wrote.2.text mid new tt still ready.report_is;
            };
          }
      held_said (Err (Refused (Larger repacked))) result still wrote held =
          let repack : IsRepackOf asked paths repacked wrote.2.records wrote.2.text old =
          record { input = wrote.0; has_input = wrote.1; answers = wrote.2.answers.counted; belong = wrote.2.answers.belong; bytes_read = wrote.2.answers.read } in
          held_of repacked wrote.2.records wrote.2.text (Err (Refused (Larger repacked))) result repack
          (λ same unshrunk. subst (λ (r : Result Repacked Stop). HeldAs input files asked r old new) (sym same) (record {
            records = wrote.2.records;
            text = wrote.2.text;
            repack = repack;
            only_smaller = wrote.2.answers.only_smaller;
            larger = wrote.2.answers.larger;
            unshrunk = unshrunk;
          })) held
      held_said (Err (Refused (CannotOpen why))) result still wrote held = subst (λ (r : Result Repacked Stop). HeldAs input files asked r old new) (sym held)
          (⊎_elim (λ unknown. absurd (at.known.input unknown)) (λ failed. let few = no_fewer [] mid new still in omega arith) wrote.1)
      held_said (Err (Refused (Tool why))) result still wrote held = subst (λ (r : Result Repacked Stop). HeldAs input files asked r old new) (sym held)
          (record { input = wrote.0; written = wrote.2.records; told = wrote.2.text; has_input = wrote.1; answers = wrote.2.answers })
      held_said (Err (Refused (Misplaced found))) result still wrote held = subst (λ (r : Result Repacked Stop). HeldAs input files asked r old new) (sym held)
          (record { input = wrote.0; records = wrote.2.records; text = wrote.2.text; has_input = wrote.1; is = wrote.2.answers })
      held_said (Err (Refused why)) result still wrote held = absurd wrote.2.answers
      held_said (Err Memory) result still wrote held = subst (λ (r : Result Repacked Stop). HeldAs input files asked r old new) (sym held) tt

  pub held_written : (written result : Result Repacked Stop) (one mid two : List Step → Type 0) → Goes one mid (WritesDay input look.input files asked written)
      → Goes mid two (HoldsAgainst files look asked written result) → Goes one two (WritesHeld input look files asked result)
  held_written written result one mid two first second = goes_both _ _ _ one mid two
      (λ p q r w h. record {
        changes = changes_then l p q r w.changes (changes_more [] l q r (λ n none. tt) h.changes);
        said = λ names at. held_said names p q w.changes r at written result h.changes (w.said at.are.input) (h.said input (looked_later names p q w.changes at.are));
      }) first second
