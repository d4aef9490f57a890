-- A day is written.
use Rattle.std.proofs.Common.{◌≡◌, ◌⊎◌, ◌<◌, inl, inr, ⊎_elim, ℕ, List, [], refl, sym, ◌∙◌, ap, subst, Result, Ok, Err, Some, None, length, option_map}
use Rattle.msr_devices.specs.Device.{Device, HasLeft, unused}
use Rattle.msr_options.specs.declared.days.DayOptions.{DayOptions}
use Rattle.msr_options.specs.declared.hint.Side.{Side}
use Rattle.msr_options.specs.declared.hint.Side.TheVariants.{File as OwnFile}
use Rattle.msr_tool.specs.declared.fault.ToolFault.TheVariants as tool
use Rattle.msr_tree.specs.Folders.{ActsOnFiles}
use Rattle.msr_tree.specs.Calls.{Goes, Looks, Opens, Tells}
use Rattle.msr_tree.specs.Steps.{Path, Step, failures, seen}
use Rattle.msr_tree.specs.declared.facts.Facts.{Facts}
use Rattle.msr_tree.specs.declared.tree.TreeFault.{TreeFault}
use Rattle.msr_tree.specs.declared.tree.TreeFault.TheVariants as fault
use Rattle.msr_tree.proofs.Acting.{giving, goes_as, stopping}
use Rattle.msr_tree.proofs.Filing.{changes_more, changes_then}
use Rattle.msr_naming.proofs.FallingBack.{goes_both}
use Rattle.msr_naming.specs.declared.files.DayFiles.{DayFiles}
use Rattle.msr_making.specs.Looking.{IsSightAt}
use Rattle.msr_making.specs.Parts.{AreBegun, AreFinished, IsMadeSide, IsUnmade, IsUnopened, called_told, part_paths}
use Rattle.msr_making.specs.Writing.{IfHasLeft, IfSeen, IsOwnOrMade, IsUnfit, IsWrittenTo, RefusesNothing, RepackedOf, RepacksParts, WasRepacked, WritesDay, WritesFrom, WrittenAs}
use Rattle.msr_making.specs.declared.answer.DayFault.TheVariants.{CannotOpen, Tool}
use Rattle.msr_making.specs.declared.answer.Repacked.{Repacked}
use Rattle.msr_making.specs.declared.answer.Stop.{Stop}
use Rattle.msr_making.specs.declared.answer.Stop.TheVariants.{Memory, Refused}
use Rattle.msr_making.specs.declared.looks.Sight.{Sight}
use Rattle.msr_making.specs.declared.looks.Sight.TheVariants.{Found, Nothing, Unknown}
use Rattle.msr_making.specs.declared.parts.Parts.{Parts}
use Rattle.msr_naming.proofs.Begun.{taken_is}
use Rattle.msr_making.proofs.Days.{unwritten_of}
use Rattle.msr_making.proofs.Sights.{found_length, tells_changes, tells_failed}

module _ (source : Device) (files : DayFiles) (asked : DayOptions) (bytes_read : ℕ) where
  abbrev l : List Path
  l = part_paths files

  abbrev From : Result Repacked Stop → (old new : List Step) → Type 0
  From result old new = WritesFrom source files asked bytes_read result old new

  unopened : {A : Type 0} (Done : (old new : List Step) → A → Type 0) (stop : Stop) (old new : List Step) → IsUnmade stop → ActsOnFiles l Done (called_told {T = A} (Err stop)) old new → From (Err stop) old new
  unopened Done (Refused (CannotOpen why)) old new is acts = record { changes = acts.changes; said = (subst (λ (s : Side). IsMadeSide s) (sym is.2) is.1, acts.cause refl) }
  unopened Done (Refused why) old new is acts = absurd is.2
  unopened Done Memory old new is acts = record { changes = acts.changes; said = tt }

  pub not_begun : {W : Type 0} (device : W → Device) (stop : Stop) (one two : List Step → Type 0) → IsUnmade stop
      → Goes one two (ActsOnFiles l (AreBegun device) (called_told {T = Parts W} (Err stop))) → Goes one two (From (Err stop))
  not_begun {W = W} device stop one two is goes = goes_as _ _ one two (λ p q acts. unopened {A = Parts W} (AreBegun device) stop p q is acts) goes

  said_unfit : (U : Side → Type 0) (stop : Stop) (input records text : List ℕ) (new : List Step) → HasLeft source input → RepackedOf asked bytes_read input records text (Err stop)
      → WrittenAs (IfHasLeft source) U files asked (λ bytes. bytes_read) (Err stop) new
  said_unfit U (Refused (CannotOpen why)) input records text new left is = absurd is
  said_unfit U (Refused why) input records text new left is = (input, left, record { records = records; text = text; answers = is })
  said_unfit U Memory input records text new left is = absurd is

  -- the source was not repacked, or not to fewer bytes
  pub not_fit : {W : Type 0} (device : W → Device) (parts : Parts W) (stop : Stop) (records0 records text0 text : Device) (one two : List Step → Type 0)
      → RepacksParts asked bytes_read source records0 records text0 text (Err stop)
      → Goes one two (ActsOnFiles l (AreBegun device) (giving parts)) → Goes one two (From (Err stop))
  not_fit device parts stop records0 records text0 text one two does goes =
      goes_as _ _ one two (λ p q acts. record { changes = acts.changes; said = said_unfit (λ side. IsMadeSide side × (failures p < failures q)) stop does.input does.written does.told q does.left does.answers }) goes

  module _ {W : Type 0} (device : W → Device) (parts : Parts W) (records text : Device) (repacked : Repacked)
      (does : RepacksParts asked bytes_read source (device parts.records) records (device parts.report) text (Ok repacked)) (one mid two : List Step → Type 0)
      (begun : Goes one mid (ActsOnFiles l (AreBegun device) (giving parts))) where
    pub written : Goes mid two (ActsOnFiles l (AreFinished files records text) (giving {A = Unit {0}} tt)) → Goes one two (From (Ok repacked))
    written finished = goes_both _ _ _ one mid two
        (λ p q r x y. record {
          changes = changes_then l p q r x.changes y.changes;
          said = (
            does.input,
            does.left,
            record {
              records = does.written;
              text = does.told;
              fit = does.answers;
              ready = λ apart.
                  let taken = y.does apart in
                  record {
                    records_are = taken_is files.records.part (device parts.records) records does.written r x.does.0 does.wrote taken.0;
                    report_is = taken_is files.report.part (device parts.report) text does.told r x.does.1 does.told_all taken.1;
                  };
            },
          );
        }) begun finished

    pub unwritten : (why : TreeFault) → Goes mid two (ActsOnFiles l (AreFinished files records text) (stopping (Unit {0}) why)) → Goes one two (From (Err (Refused (Tool tool.Write))))
    unwritten why finished = goes_both _ _ _ one mid two
        (λ p q r x y. record {
          changes = changes_then l p q r x.changes y.changes;
          said = (
            does.input,
            does.left,
            record {
              records = does.written;
              text = does.told;
              answers = unwritten_of asked.options does.input does.written does.told repacked does.answers.counted;
            },
          );
        }) begun finished

    pub unfinished : (why : TreeFault) → Goes mid two (ActsOnFiles l (AreFinished files records text) (stopping (Unit {0}) why)) → Goes one two (From (Err Memory))
    unfinished why finished = goes_both _ _ _ one mid two (λ p q r x y. record { changes = changes_then l p q r x.changes y.changes; said = tt }) begun finished

-- what is said of a source is said of the name under which it was opened
module _ (input : Path) (files : DayFiles) (asked : DayOptions) where
  seen_left : (source : Device) (P Q : List ℕ → Type 0) (past : List Step) → Opens input past source → ((bytes : List ℕ) → seen past input ≡ Some bytes → P bytes → Q bytes) → IfHasLeft source P → IfSeen input past Q
  seen_left source P Q past opens so is =
      let here : HasLeft (unused (Some opens.0)) is.0 = subst (λ (d : Device). HasLeft d is.0) opens.2 is.1 in
      let has : seen past input ≡ Some is.0 = opens.1 ∙ ap (λ b. Some b) here in
      (is.0, has, so is.0 has is.2)

  opened_as : (sight : Sight) (facts : Facts) (source : Device) (result : Result Repacked Stop) (old new : List Step) → Looks input old (Some facts) → Opens input old source
      → WrittenAs (IfHasLeft source) (λ side. IsMadeSide side × (failures old < failures new)) files asked (λ bytes. facts.bytes) result new
      → WrittenAs (IfSeen input old) (λ side. IsOwnOrMade side old new × ((sight ≡ Unknown) ⊎ (failures old < failures new))) files asked (λ bytes. length bytes) result new
  opened_as sight facts source (Ok repacked) old new looks opens said =
      seen_left source _ _ old opens (λ bytes has is. subst (λ (n : ℕ). IsWrittenTo files asked n bytes new repacked) (found_length input old facts bytes looks has) is) said
  opened_as sight facts source (Err (Refused (CannotOpen why))) old new looks opens said = (inr said.0, inr said.1)
  opened_as sight facts source (Err (Refused why)) old new looks opens said =
      seen_left source _ _ old opens (λ bytes has is. subst (λ (n : ℕ). IsUnfit asked n bytes (Refused why)) (found_length input old facts bytes looks has) is) said
  opened_as sight facts source (Err Memory) old new looks opens said = tt

  pub day_written : {R : Type 0} (device : R → Device) (facts : Facts) (reader : R) (result : Result Repacked Stop) (one mid two : List Step → Type 0)
      → Goes one mid (Tells (λ past reader. Opens input past (device reader)) (Ok reader)) → Goes mid two (WritesFrom (device reader) files asked facts.bytes result)
      → Goes one two (WritesDay input (Found facts) files asked result)
  day_written device facts reader result one mid two opened writes = goes_both _ _ _ one mid two
      (λ p q r x y. subst (λ (l : List Step). WritesDay input (Found facts) files asked result l r) x.0 (record {
        changes = y.changes;
        said = λ looks. opened_as (Found facts) facts (device reader) result q r looks (subst (λ (l : List Step). Opens input l (device reader)) (sym x.0) x.1) y.said;
      })) opened writes

  pub day_unopened : {R : Type 0} (device : R → Device) (sight : Sight) (stop : Stop) (one two : List Step → Type 0) → IsUnopened OwnFile stop
      → Goes one two (Tells (λ past reader. Opens input past (device reader)) (called_told {T = R} (Err stop))) → Goes one two (WritesDay input sight files asked (Err stop))
  day_unopened {R = R} device sight stop one two un goes = goes_as _ _ one two (λ p q tells. by_stop stop un p q tells) goes
    where
      by_stop : (why : Stop) → IsUnopened OwnFile why → (p q : List Step) → Tells (λ past reader. Opens input past (device reader)) (called_told {T = R} (Err why)) p q → WritesDay input sight files asked (Err why) p q
      by_stop (Refused (CannotOpen u)) ok p q tells =
          let none = tells_changes (λ past reader. Opens input past (device reader)) (stopping R fault.Failed) p q tells in
          record {
            changes = changes_more [] (part_paths files) p q (λ n none. tt) none;
            said = λ looks. (inl (ok, none), inr (tells_failed {A = R} (λ past reader. Opens input past (device reader)) p q tells));
          }
      by_stop (Refused u) ok p q tells = absurd ok
      by_stop Memory ok p q tells = record {
        changes = changes_more [] (part_paths files) p q (λ n none. tt) (tells_changes (λ past reader. Opens input past (device reader)) (stopping R fault.Memory) p q tells);
        said = λ looks. tt;
      }

  -- a file that a look did not find
  nothing_as : (sight : Sight) (stop : Stop) (old new : List Step) → ((facts : Facts) → sight ≡ Found facts → ⊥) → IsUnopened OwnFile stop → RefusesNothing input stop old new → IsSightAt input old sight
      → WrittenAs (IfSeen input old) (λ side. IsOwnOrMade side old new × ((sight ≡ Unknown) ⊎ (failures old < failures new))) files asked (λ bytes. length bytes) (Err stop) new
  nothing_as (Found facts) stop old new not own refuses is = absurd (not facts refl)
  nothing_as Unknown (Refused (CannotOpen why)) old new not own refuses is = (inl (own, refuses.changes), inl refl)
  nothing_as Nothing (Refused (CannotOpen why)) old new not own refuses is = (
    inl (own, refuses.changes),
    ⊎_elim
        (λ has. let other : seen old input ≡ None = ap (λ found. option_map (λ file. file.bytes) found) is in let here = has.1 in absurd cc)
        (λ failed. inr failed) refuses.said,
  )
  nothing_as sight (Refused why) old new not own refuses is = absurd own
  nothing_as sight Memory old new not own refuses is = tt

  pub day_refused : (sight : Sight) (stop : Stop) (one two : List Step → Type 0) → ((facts : Facts) → sight ≡ Found facts → ⊥) → IsUnopened OwnFile stop → Goes one two (RefusesNothing input stop) → Goes one two (WritesDay input sight files asked (Err stop))
  day_refused sight stop one two not own goes = goes_as _ _ one two (λ p q refuses. record {
    changes = changes_more [] (part_paths files) p q (λ n none. tt) refuses.changes;
    said = λ is. nothing_as sight stop p q not own refuses is;
  }) goes

-- a file that was not opened or made says nothing of some day
pub unopened_repacked : (asked : DayOptions) (side : Side) (stop : Stop) → IsUnopened side stop → WasRepacked asked (Err stop)
unopened_repacked asked side (Refused (CannotOpen u)) is = tt
unopened_repacked asked side (Refused why) is = absurd is
unopened_repacked asked side Memory is = tt
