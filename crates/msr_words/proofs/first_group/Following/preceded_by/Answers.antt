-- One difference more.
use Rattle.std.proofs.Common.{arith, ◌≡◌, ◌∷◌, ◌-◌, ◌+◌, bit_or, subst}
use Rattle.std.proofs.lemmas.Int.{to_z-of_z}
use Rattle.std.proofs.lemmas.Nat.{le_or_l}
use Rattle.msr_words.specs.FirstGroup.{IsFirstGroup}
use Rattle.msr_words.specs.Window.{IsSize}
use Rattle.msr_words.proofs.FirstGroups.{first_of, least_of}
use Rattle.msr_words.proofs.GroupSizes.{four_is, pair_is, size_here, size_later, triple_is}
use Rattle.msr_words.proofs.first_group.Following.preceded_by.Goals as goal

pub first_group-found-requires-clause-pair : goal.first_group-found-requires-clause-pair
first_group-found-requires-clause-pair c = le_or_l (bit_or c.magnitude-size.result c.args.self.first) c.args.self.second

pub first_group-found-requires-clause-triple : goal.first_group-found-requires-clause-triple
first_group-found-requires-clause-triple c =
    le_or_l (bit_or (bit_or c.magnitude-size.result c.args.self.first) c.args.self.second) c.args.self.third

pub returns-clause-following : goal.returns-clause-following
returns-clause-following c ds is =
    let self = c.args.self in
    let size : IsSize c.args.difference c.magnitude-size.result =
    (let fits = c.ranges.difference in simp to_z-of_z at c.magnitude-size.ensures) in
    let found : IsFirstGroup (c.args.difference ∷ ds) c.first_group-found.result.size c.first_group-found.result.after =
    first_of c.args.difference ds self.all self.one self.two self.three _ _ _ c.first_group-found.result.size
    c.first_group-found.result.after c.requires.fits c.first_group-found.ensures
    is.all_is is.one_is is.two_is is.three_is
    (pair_is c.args.difference ds c.magnitude-size.result self.first size is.first_is)
    (triple_is c.args.difference ds c.magnitude-size.result self.first self.second size is.first_is is.second_is)
    (four_is c.args.difference ds c.magnitude-size.result self.first self.second self.third size is.first_is
    is.second_is is.third_is) in
    record {
      all_is = least_of (c.args.difference ∷ ds) c.first_group-found.result.size c.first_group-found.result.after found;
      one_is = λ within. is.all_is;
      two_is = λ within. is.one_is (omega arith);
      three_is = λ within. is.two_is (omega arith);
      first_is = size_here c.args.difference ds c.magnitude-size.result size;
      second_is = size_later c.args.difference ds 0 self.first is.first_is;
      third_is = size_later c.args.difference ds 1 self.second is.second_is;
    }

pub returns-clause-group : goal.returns-clause-group
returns-clause-group c ds is =
    let self = c.args.self in
    let size : IsSize c.args.difference c.magnitude-size.result =
    (let fits = c.ranges.difference in simp to_z-of_z at c.magnitude-size.ensures) in
    let found : IsFirstGroup (c.args.difference ∷ ds) c.first_group-found.result.size c.first_group-found.result.after =
    first_of c.args.difference ds self.all self.one self.two self.three _ _ _ c.first_group-found.result.size
    c.first_group-found.result.after c.requires.fits c.first_group-found.ensures
    is.all_is is.one_is is.two_is is.three_is
    (pair_is c.args.difference ds c.magnitude-size.result self.first size is.first_is)
    (triple_is c.args.difference ds c.magnitude-size.result self.first self.second size is.first_is is.second_is)
    (four_is c.args.difference ds c.magnitude-size.result self.first self.second self.third size is.first_is
    is.second_is is.third_is) in
    let same : c.first_group-found.result.after ≡ c.first_group-found.result.after + 1 - 1 = omega arith in
    subst (IsFirstGroup (c.args.difference ∷ ds) c.first_group-found.result.size) same found
