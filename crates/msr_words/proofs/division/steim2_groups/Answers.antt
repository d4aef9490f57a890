-- One difference more, and the last group.
use Rattle.std.proofs.Common.{rules, arith, ◌≡◌, ◌+◌, ◌++◌, [], ◌∷◌, length, map, take, drop, min, get_or, pos, w32, w64, SFits, ap, ◌∙◌, subst, inl, inr}
use Rattle.std.proofs.lemmas.Int.{to_z-of_z}
use Rattle.std.proofs.lemmas.List.{length-append, length-map, take_all, take_more}
use Rattle.msr_base.specs.declared.storage.Version.TheVariants.{Two}
use Rattle.msr_words.specs.Division.{CanDivide}
use Rattle.msr_words.specs.Groups.{IsCapacity}
use Rattle.msr_words.proofs.WrittenDivision.{items_push}
use Rattle.msr_words.proofs.Greedy.{IsGreedy, cut_at, greedy_last, greedy_next, greedy_no, greedy_none, greedy_same}
use Rattle.msr_words.proofs.division.steim2_groups.Goals as goal
use Rattle.msr_words.proofs.division.steim2_groups.Goals.{then-capacity-eq0-via-then-capacity-eq0, then-capacity-eq0-via-else-capacity-eq0+then-room_for-len, then-not-is_empty+in_ok-push-2, else-not-is_empty}

pub loop-difference-preserved-then-len-from : goal.loop-difference-preserved-then-len-from
loop-difference-preserved-then-len-from c =
    let i = c.loop-difference.difference-index in
    let ds = c.args.differences.now in
    let d = get_or ds i (pos 0) in
    let capacity = c.steim2_capacity-capacity.result in
    let diff : SFits w64 (get_or ds i (pos 0)) = search rules in
    let cap : IsCapacity (get_or ds i (pos 0)) capacity = simp to_z-of_z at c.steim2_capacity-capacity.ensures in
    let part : c.word_part.result ≡ get_or ds i (pos 0) = simp to_z-of_z at c.word_part.ensures in
    let small : SFits w32 c.word_part.result = search rules in
    let more : c.push.new.self.items ≡ c.loop-difference.group.items ++ get_or ds i (pos 0) ∷ [] =
    c.push.ensures.items ∙ ap (λ x. c.loop-difference.group.items ++ x ∷ [])
    (to_z-of_z w32 c.word_part.result small ∙ part) in
    let room : c.min-room.result ≡ min c.loop-difference.most capacity = c.min-room.ensures in
    let past : take (i + 1) ds ≡ take i ds ++ get_or ds i (pos 0) ∷ [] = take_more ds i (pos 0) (omega arith) in
    rw (more, room, past) (greedy_same c.args.words c.loop-difference.most
    (take i ds) c.loop-difference.group.items _ c.loop-difference.invariant d capacity cap (omega arith))

pub loop-difference-preserved : goal.loop-difference-preserved
loop-difference-preserved c =
    let i = c.loop-difference.difference-index in
    let ds = c.args.differences.now in
    let d = get_or ds i (pos 0) in
    let capacity = c.steim2_capacity-capacity.result in
    let diff : SFits w64 (get_or ds i (pos 0)) = search rules in
    let cap : IsCapacity (get_or ds i (pos 0)) capacity = simp to_z-of_z at c.steim2_capacity-capacity.ensures in
    let part : c.word_part-in-loop-difference.result ≡ get_or ds i (pos 0) =
    simp to_z-of_z at c.word_part-in-loop-difference.ensures in
    let small : SFits w32 c.word_part-in-loop-difference.result = search rules in
    let one : c.push-in-loop-difference-2.new.self.items ≡ get_or ds i (pos 0) ∷ [] =
    c.push-in-loop-difference-2.ensures.items ∙ ap (λ x. c.new-group-in-loop-difference.result.items ++ x ∷ [])
    (to_z-of_z w32 c.word_part-in-loop-difference.result small ∙ part) ∙
    ap (λ l. l ++ get_or ds i (pos 0) ∷ []) c.new-group-in-loop-difference.ensures in
    let closed : map (λ g. g.items) c.push-in-loop-difference.new.self.items
    ≡ map (λ g. g.items) c.loop-difference.groups.items ++ c.loop-difference.group.items ∷ [] =
    ap (map (λ g. g.items)) c.in_ok-push.ensures.items
    ∙ items_push c.loop-difference.groups.items c.loop-difference.group in
    let past : take (i + 1) ds ≡ take i ds ++ get_or ds i (pos 0) ∷ [] = take_more ds i (pos 0) (omega arith) in
    let number : length (map (λ g. g.items) c.loop-difference.groups.items)
    ≡ length c.loop-difference.groups.items = length-map c.loop-difference.groups.items (λ g. g.items) in
    let room : c.min-room.result ≡ min c.loop-difference.most capacity = c.min-room.ensures in
    rw (one, closed, past) (greedy_next c.args.words c.loop-difference.most
    (take i ds) c.loop-difference.group.items _ c.loop-difference.invariant d capacity cap (omega arith)
    (omega arith) (omega arith))

pub returns-then-capacity-eq0-clause-none : goal.returns-then-capacity-eq0-clause-none
returns-then-capacity-eq0-clause-none c = λ none can.
    let i = c.loop-difference.difference-index in
    let ds = c.args.differences.now in
    let d = get_or ds i (pos 0) in
    let capacity = c.steim2_capacity-capacity.result in
    let diff : SFits w64 (get_or ds i (pos 0)) = search rules in
    let cap : IsCapacity (get_or ds i (pos 0)) capacity = simp to_z-of_z at c.steim2_capacity-capacity.ensures in
    let room : c.min-room.result ≡ min c.loop-difference.most capacity = c.min-room.ensures in
    let number : length (map (λ g. g.items) c.loop-difference.groups.items)
    ≡ length c.loop-difference.groups.items = length-map c.loop-difference.groups.items (λ g. g.items) in
    let whole : ds ≡ take i ds ++ get_or ds i (pos 0) ∷ drop (i + 1) ds = cut_at ds i (omega arith) in
    greedy_no c.args.words c.loop-difference.most
    (take i ds) c.loop-difference.group.items _ c.loop-difference.invariant d capacity cap (omega arith)
    (elim c.then-capacity-eq0.branch [
      | then-capacity-eq0-via-then-capacity-eq0 w ↦ inl w.if-capacity-eq0.true
      | then-capacity-eq0-via-else-capacity-eq0+then-room_for-len w ↦ inr (omega arith)
    ]) (drop (i + 1) ds) (subst (CanDivide Two c.args.words) whole can)

pub returns-clause-chosen : goal.returns-clause-chosen
returns-clause-chosen c =
    let ds = c.args.differences.now in
    let group = c.loop-difference.group.items in
    let groups = map (λ g. g.items) c.loop-difference.groups.items in
    let all : take c.loop-difference.difference-index ds ≡ ds =
    take_all c.loop-difference.difference-index ds (omega arith) in
    let is = subst (λ past. IsGreedy c.args.words past c.loop-difference.group.items
    (map (λ g. g.items) c.loop-difference.groups.items) c.loop-difference.most) all c.loop-difference.invariant in
    elim c.if-not-is_empty.branch [
      | then-not-is_empty+in_ok-push-2 w ↦
          let last = greedy_last c.args.words c.loop-difference.most ds c.loop-difference.group.items
          (map (λ g. g.items) c.loop-difference.groups.items) is (grind arith) in
          rw (
            w.groups-is,
            w.in_ok-push-2.ensures.items,
            items_push c.loop-difference.groups.items c.loop-difference.group,
          ) last
      | else-not-is_empty w ↦
          let last = greedy_none c.args.words c.loop-difference.most ds c.loop-difference.group.items
          (map (λ g. g.items) c.loop-difference.groups.items) is (grind arith) in
          rw w.groups-is last
    ]

pub returns-clause-few : goal.returns-clause-few
returns-clause-few c =
    let few = c.loop-difference.invariant.few in
    let number = length-map c.loop-difference.groups.items (λ g. g.items) in
    elim c.if-not-is_empty.branch [
      | then-not-is_empty+in_ok-push-2 w ↦
          let more = length-append c.loop-difference.groups.items (c.loop-difference.group ∷ []) in
          rw (w.groups-is, w.in_ok-push-2.ensures.items) (omega arith)
      | else-not-is_empty w ↦ rw w.groups-is (omega arith)
    ]
