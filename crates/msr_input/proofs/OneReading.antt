-- An input has one list of records, and at most one first fault.
use Rattle.std.proofs.Common.{◌≡◌, ℕ, Bool, ◌<◌, inl, inr, List, [], ◌∷◌, ◌++◌, length, refl, sym, ap, subst, ◌∙◌, arith}
use Rattle.std.proofs.lemmas.List.{append-nil}
use Rattle.msr_rows.specs.Records.{IsRefused}
use Rattle.msr_rows.specs.declared.row.Record.{Record}
use Rattle.msr_rows.specs.declared.fault.FaultKind.{FaultKind}
use Rattle.msr_rows.specs.declared.fault.FaultKind.TheVariants.{Memory}
use Rattle.msr_rows.proofs.OneAnswer.{one_record}
use Rattle.msr_segments.specs.Segments.{AreSegments}
use Rattle.msr_segments.proofs.DivisionLaws.{one_list}
use Rattle.msr_input.specs.Input.{AllAgree, BeginsWith, NoneOverruns, IsRefusedAlone, IsRefusedAfter, bytes_of_records, rows_of_records, OneListOfRecords, OneFirstFault, ReadableHasNoFault, MemoryIsNoFault}
use Rattle.msr_input.specs.declared.fault.Fault.{Fault}
use Rattle.msr_input.specs.declared.settings.Settings.{Settings}
use Rattle.msr_input.proofs.Records.{GoesOn, agree_one, compare_begins, nothing_begins}
use Rattle.msr_input.proofs.Strict.{not_alone, one_alone}

-- nothing goes on after the end
stops_at_end : (more : List Record) (to : List ℕ) → BeginsWith more [] to → (more ≡ []) × ([] ≡ to)
stops_at_end [] to b = (refl, b)
stops_at_end (x ∷ xs) to b = absurd (nothing_begins x b.0)

-- the record that is refused after others is none of a list that goes on
refused_stops : (settings : Settings) (records others more : List Record) (from to : List ℕ) (kind : FaultKind)
    → others ≡ records ++ more → BeginsWith more from to → NoneOverruns settings.tolerance others
    → AllAgree settings.strict others → IsRefusedAfter settings records from kind → (more ≡ []) × (from ≡ to)
refused_stops settings records others [] from to kind whole b none agree refused = (refl, b)
refused_stops settings records others (x ∷ xs) from to kind whole b none agree (inl refused) =
    let agrees = agree_one settings.strict records xs x
    (subst (λ (found : List Record). AllAgree settings.strict found) whole agree) in
    absurd (not_alone settings.strict from x kind b.0 agrees refused)
refused_stops settings records others (x ∷ xs) from to kind whole b none agree (inr overruns) =
    let o = overruns.1 in
    let same : o.found ≡ x = one_record from o.found x o.is_record b.0 in
    let whole2 = subst (λ (found : Record). others ≡ records ++ found ∷ xs) (sym same) whole in
    absurd (none records xs o.found o.row whole2 o.has_row o.out_of_range)

same_kind : (settings : Settings) (records others : List Record) (bytes : List ℕ) (kind other : FaultKind)
    → IsRefusedAfter settings records bytes kind → IsRefusedAfter settings others bytes other → kind ≡ other
same_kind settings records others bytes kind other (inl a) (inl b) = one_alone settings.strict bytes kind other a b
same_kind settings records others bytes kind other (inl a) (inr b) =
    absurd (not_alone settings.strict bytes b.1.found kind b.1.is_record b.1.agrees a)
same_kind settings records others bytes kind other (inr a) (inl b) =
    absurd (not_alone settings.strict bytes a.1.found other a.1.is_record a.1.agrees b)
same_kind settings records others bytes kind other (inr a) (inr b) = a.0 ∙ sym b.0

same_fault : (a b : Fault) → a.offset ≡ b.offset → a.kind ≡ b.kind → a ≡ b
same_fault a b e k =
    ap (λ (offset : ℕ). record { offset = offset; kind = a.kind }) e
    ∙ ap (λ (kind : FaultKind). record { offset = b.offset; kind = kind }) k

pub one_list_of_records : OneListOfRecords
one_list_of_records settings input records others segments more a b =
    let same : records ≡ others = elim (compare_begins records others input [] [] a.are_read.begins b.are_read.begins) [
      | inl g ↦ sym (g.whole ∙ ap (λ (xs : List Record). records ++ xs) (stops_at_end g.more [] g.begins).0
          ∙ append-nil records)
      | inr g ↦ g.whole ∙ ap (λ (xs : List Record). others ++ xs) (stops_at_end g.more [] g.begins).0
          ∙ append-nil others
    ] in
    let segs = subst (λ (xs : List Record). AreSegments settings.tolerance
    (rows_of_records xs) segments) same a.are_segments in
    (same, one_list settings.tolerance (rows_of_records others) segments more segs b.are_segments)

first_same : (settings : Settings) (records others : List Record) (r s : List ℕ) (fault other : Fault)
    → GoesOn records others r s → NoneOverruns settings.tolerance others → AllAgree settings.strict others
    → IsRefusedAfter settings records r fault.kind → IsRefusedAfter settings others s other.kind
    → fault.offset ≡ bytes_of_records records → other.offset ≡ bytes_of_records others
    → (records ≡ others) × (fault ≡ other)
first_same settings records others r s fault other g none agree a b p q =
    let stop = refused_stops settings records others g.more r s fault.kind g.whole g.begins none agree a in
    let same : others ≡ records = g.whole ∙ ap (λ (xs : List Record). records ++ xs) stop.0 ∙ append-nil records in
    let b1 = subst (λ (bytes : List ℕ). IsRefusedAfter settings others bytes other.kind) (sym stop.1) b in (
      sym same,
      same_fault fault other (p ∙ ap bytes_of_records (sym same) ∙ sym q)
          (same_kind settings records others r fault.kind other.kind a b1),
    )

pub one_first_fault : OneFirstFault
one_first_fault settings input records others fault other a b =
    elim (compare_begins records others input a.rest b.rest a.are_read.begins b.are_read.begins) [
      | inl g ↦ first_same settings records others a.rest b.rest fault other g b.are_read.in_range b.are_read.agree
          a.refused b.refused a.offset_is b.offset_is
      | inr g ↦ (
          let same = first_same settings others records b.rest a.rest other fault g a.are_read.in_range
          a.are_read.agree b.refused a.refused b.offset_is a.offset_is in
          (sym same.0, sym same.1))
    ]

left_behind : (bytes : List ℕ) → [] ≡ bytes → 0 < length bytes → ⊥
left_behind bytes e some = let size = ap length e in omega (arith, size, some)

pub readable_has_no_fault : ReadableHasNoFault
readable_has_no_fault settings input records others segments fault a b =
    elim (compare_begins records others input [] b.rest a.are_read.begins b.are_read.begins) [
      | inl g ↦ left_behind b.rest (stops_at_end g.more b.rest g.begins).1 b.some_left
      | inr g ↦ left_behind b.rest (sym (refused_stops settings others records g.more b.rest
          [] fault.kind g.whole g.begins a.are_read.in_range a.are_read.agree b.refused).1) b.some_left
    ]

memory_alone : (strict : Bool) (rest : List ℕ) (kind : FaultKind) → IsRefusedAlone strict rest kind → kind ≡ Memory → ⊥
memory_alone strict rest kind (inl m) e = let mismatch = m.1 in cc
memory_alone strict rest kind (inr r) e = subst (λ (k : FaultKind). IsRefused rest k) e r.1

memory_refused : (settings : Settings) (records : List Record) (rest : List ℕ) (kind : FaultKind)
    → IsRefusedAfter settings records rest kind → kind ≡ Memory → ⊥
memory_refused settings records rest kind (inl refused) e = memory_alone settings.strict rest kind refused e
memory_refused settings records rest kind (inr overruns) e = let time = overruns.0 in cc

pub memory_is_no_fault : MemoryIsNoFault
memory_is_no_fault settings input records fault first =
    memory_refused settings records first.rest fault.kind first.refused
