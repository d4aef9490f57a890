-- The numbers of an area, one after the other.
use Rattle.std.proofs.Common.{◌≡◌, ℕ, zero, suc, ◌+◌, ◌-◌, ◌*◌, ◌<◌, ◌≤◌, pos, List, ◌∷◌, length, take, drop, get_or, refl, sym, ap, ◌∙◌, subst, arith}
use Rattle.std.proofs.lemmas.List.{length-drop, take_all, drop-drop}
use Rattle.msr_base.specs.declared.order.Order.{Order}
use Rattle.msr_base.specs.Storage.{size_of}
use Rattle.msr_plain.specs.Plain.{CarriesPlain, number_in, numbers_in_area}
use Rattle.msr_base.specs.declared.storage.Width.{Width}

pub length-numbers_in : (width : Width) (order : Order) (area : List ℕ) (count : ℕ)
    → length (numbers_in_area width order area count) ≡ count
length-numbers_in width order area zero = refl
length-numbers_in width order area (suc count) =
    ap suc (length-numbers_in width order (drop (size_of width) area) count)

each_in : (width : Width) (order : Order) (area : List ℕ) (count place : ℕ) → place < count
    → get_or (numbers_in_area width order area count) place (pos 0)
    ≡ number_in width order (drop (size_of width * place) area)
each_in width order area zero place h = absurd (omega (arith, h))
each_in width order area (suc count) zero h =
    let none : size_of width * 0 ≡ 0 = omega arith in
    sym (ap (λ (n : ℕ). number_in width order (drop n area)) none)
each_in width order area (suc count) (suc place) h =
    let e : size_of width * suc place ≡ size_of width + size_of width * place = omega arith in
    each_in width order (drop (size_of width) area) count place (omega (arith, h))
    ∙ ap (number_in width order) (drop-drop (size_of width * place) (size_of width) area
    ∙ ap (λ (n : ℕ). drop n area) (sym e))

-- an area that is long enough carries its numbers in order
pub numbers_carried : (width : Width) (order : Order) (area : List ℕ) (count : ℕ) → size_of width * count ≤ length area
    → CarriesPlain width order area (numbers_in_area width order area count)
numbers_carried width order area count room = record {
  room = subst (λ n. size_of width * n ≤ length area) (sym (length-numbers_in width order area count)) room;
  each = λ place within. each_in width order area count place
      (subst (λ n. place < n) (length-numbers_in width order area count) within);
}

-- the first number, and those of the bytes after it
pub first_number : (width : Width) (order : Order) (bytes : List ℕ) (count size : ℕ) → 0 < count → size ≡ size_of width
    → numbers_in_area width order bytes count ≡ number_in width order bytes ∷ numbers_in_area width order
    (take (length bytes - size) (drop size bytes)) (count - 1)
first_number width order bytes zero size some e = absurd (omega (arith, some))
first_number width order bytes (suc count) size some e =
    let rest : take (length bytes - size) (drop size bytes) ≡ drop (size_of width) bytes =
    take_all (length bytes - size) (drop size bytes) (omega (arith, length-drop size bytes))
    ∙ ap (λ (n : ℕ). drop n bytes) e in
    let one_less : suc count - 1 ≡ count = omega arith in
    rw (rest, one_less) refl
