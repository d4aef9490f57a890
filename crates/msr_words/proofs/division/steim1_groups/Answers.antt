-- The groups so far are those of the division that is written; there is none if they are too many.
use Rattle.std.proofs.Common.{arith, ◌≡◌, ◌<◌, ◌≤◌, ◌+◌, ◌-◌, ◌++◌, [], ◌∷◌, ℕ, ℤ, List, length, map, take, drop, get_or, sym, ap, ◌∙◌, subst}
use Rattle.std.specs.List.{AllByRecursion}
use Rattle.std.proofs.lemmas.List.{get_or_read, length-append, length-drop, length-map, length-take-le}
use Rattle.msr_base.specs.declared.storage.Version.TheVariants.{One}
use Rattle.msr_steim.specs.Word.{FitsBits}
use Rattle.msr_words.specs.FirstGroup.{AreSizes, IsCanonicalFirst}
use Rattle.msr_words.proofs.WrittenDivision.{group_fits, items_push, rest_is}
use Rattle.msr_words.proofs.FirstGroups.{AreGroupsBefore, all_before, divided_fit, first_at, first_few, first_is_group, first_some, one_before, too_many}
use Rattle.msr_words.proofs.division.steim1_groups.Goals as goal

-- what is known of the group that begins at a place, by the size that is read there
record IsRead (ds : List ℤ) (sizes : List ℕ) (at size : ℕ) : Type 0 where
  value : size ≡ get_or sizes at 0
  some : 0 < size
  few : size ≤ 4
  within : at + size ≤ length ds
  taken : length (take size (take (length ds - at) (drop at ds))) ≡ size
  fits : AllByRecursion (FitsBits 32) (take size (take (length ds - at) (drop at ds)))

read : (ds : List ℤ) (sizes : List ℕ) → AreSizes ds 0 sizes → (at item size : ℕ) → at < length ds
    → item ≡ get_or sizes at item → size ≡ item → IsRead ds sizes at size
read ds sizes are at item size less item_is size_is =
    let long = are.long in
    let value : size ≡ get_or sizes at 0 = size_is ∙ get_or_read sizes at item (omega arith) item_is 0 in
    let is : IsCanonicalFirst (drop at ds) size = first_at ds sizes are at size value less in
    let left = length-drop at ds in
    let within : size ≤ length (drop at ds) = is.1.within in
    let whole = ap length (rest_is at ds) in
    record {
      value = value;
      some = first_some (drop at ds) size is.0 is.1;
      few = first_few (drop at ds) size is.0 is.1;
      within = omega arith;
      taken = length-take-le size (take (length ds - at) (drop at ds)) (omega arith);
      fits = subst (λ xs. AllByRecursion (FitsBits 32) (take size xs)) (sym (rest_is at ds))
          (group_fits One (take size (drop at ds)) (first_is_group (drop at ds) size is.0 is.1));
    }

pub returns-then-not-all_fit_bits-clause-none : goal.returns-then-not-all_fit_bits-clause-none
returns-then-not-all_fit_bits-clause-none c = λ none can.
    let t = c.all_fit_bits.ensures.1 (divided_fit c.args.words c.args.differences.now can) in
    let f = c.if-not-all_fit_bits.true in
    cc

pub returns-then-len-words-clause-none : goal.returns-then-len-words-clause-none
returns-then-len-words-clause-none c = λ none can.
    let number : length (map (λ g. g.items) c.loop-at.groups.items) ≡ length c.loop-at.groups.items =
    length-map c.loop-at.groups.items (λ g. g.items) in
    too_many c.args.differences.now c.in_ok-sizes.sizes.items c.in_ok-sizes.ensures c.args.words c.loop-at.at
    (map (λ g. g.items) c.loop-at.groups.items) c.loop-at-test.true
    (omega (arith, c.if-len-words.true, c.len.ensures, c.loop-at.groups.ok.0)) c.loop-at.invariant.before can

pub slice_bounds-group_of-end : goal.slice_bounds-group_of-end
slice_bounds-group_of-end c =
    let is = read c.args.differences.now c.in_ok-sizes.sizes.items c.in_ok-sizes.ensures c.loop-at.at c.index.result.now
    c.from-size.result c.loop-at-test.true c.index.ensures c.from-size.ensures in
    sym is.taken

pub group_of-requires-clause-few : goal.group_of-requires-clause-few
group_of-requires-clause-few c =
    let is = read c.args.differences.now c.in_ok-sizes.sizes.items c.in_ok-sizes.ensures c.loop-at.at c.index.result.now
    c.from-size.result c.loop-at-test.true c.index.ensures c.from-size.ensures in
    omega (arith, is.few, is.taken)

pub group_of-requires-clause-fit : goal.group_of-requires-clause-fit
group_of-requires-clause-fit c =
    let is = read c.args.differences.now c.in_ok-sizes.sizes.items c.in_ok-sizes.ensures c.loop-at.at c.index.result.now
    c.from-size.result c.loop-at-test.true c.index.ensures c.from-size.ensures in
    is.fits

pub loop-at-smaller : goal.loop-at-smaller
loop-at-smaller c =
    let is = read c.args.differences.now c.in_ok-sizes.sizes.items c.in_ok-sizes.ensures c.loop-at.at c.index.result.now
    c.from-size.result c.loop-at-test.true c.index.ensures c.from-size.ensures in
    omega (arith, is.some, is.within)

pub loop-at-preserved : goal.loop-at-preserved
loop-at-preserved c =
    let ds = c.args.differences.now in
    let at = c.loop-at.at in
    let is = read c.args.differences.now c.in_ok-sizes.sizes.items c.in_ok-sizes.ensures c.loop-at.at c.index.result.now
    c.from-size.result c.loop-at-test.true c.index.ensures c.from-size.ensures in
    let group : c.group_of.result.items ≡ take c.from-size.result (drop c.loop-at.at c.args.differences.now) =
    c.group_of.ensures ∙ ap (take c.from-size.result) (rest_is at ds) in
    let stored : c.push.new.self.items ≡ c.loop-at.groups.items ++ c.group_of.result ∷ [] =
    c.in_ok-push.ensures.items in
    let number : length c.push.new.self.items ≡ length c.loop-at.groups.items + 1 = ap length stored
    ∙ length-append c.loop-at.groups.items (c.group_of.result ∷ []) in
    let all : map (λ g. g.items) c.push.new.self.items ≡ map (λ g. g.items) c.loop-at.groups.items
    ++ c.group_of.result.items ∷ [] = ap (map (λ g. g.items)) stored
    ∙ items_push c.loop-at.groups.items c.group_of.result in
    record {
      few = omega (arith, c.if-len-words.false, c.len.ensures, c.loop-at.groups.ok.0);
      before = subst (AreGroupsBefore c.args.differences.now (c.loop-at.at + c.from-size.result)) (sym all)
          (one_before ds c.in_ok-sizes.sizes.items c.in_ok-sizes.ensures at c.from-size.result
          c.group_of.result.items (map (λ g. g.items) c.loop-at.groups.items)
          is.value c.loop-at-test.true group c.loop-at.invariant.before);
    }

pub returns-clause-chosen : goal.returns-clause-chosen
returns-clause-chosen c =
    all_before c.args.differences.now c.in_ok-sizes.sizes.items c.in_ok-sizes.ensures c.loop-at.at
    (map (λ g. g.items) c.loop-at.groups.items) c.loop-at-test.false c.loop-at.invariant.before
