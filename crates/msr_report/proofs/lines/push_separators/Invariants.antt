use Rattle.std.proofs.Common.{◌≡◌, ◌++◌, ◌∷◌, take, codes, flat_map, decimal}
use Rattle.msr_report.proofs.lines.push_separators.Given as goal

-- the numbers so far
abbrev pub invariant-loop-separator : goal.invariant-loop-separator
invariant-loop-separator l =
    l.out.items ≡ (l.fn.out.items ++ codes "separators")
    ++ flat_map (λ n. 32 ∷ decimal n) (take l.separator-index l.separators)
