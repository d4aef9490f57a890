-- The next Steim-1 word, if the size of its group is known.
use Rattle.std.proofs.Common.{◌≡◌, ◌<◌, ◌≤◌, ◌+◌, ℕ, ℤ, List, Option, drop, take, length, sym, subst, arith}
use Rattle.std.proofs.lemmas.List.{length-drop}
use Rattle.msr_base.specs.declared.storage.Version.TheVariants.{One}
use Rattle.msr_steim.specs.Word.{IsGroup, group_word}
use Rattle.msr_filling.specs.declared.filling.SteimWord.{SteimWord}
use Rattle.msr_words.specs.FirstGroup.{IsCanonicalFirst}
use Rattle.msr_filling.specs.NextWord.{IsCoded, IsNextWord}
use Rattle.msr_words.specs.Segment.{differences}
use Rattle.msr_words.proofs.FirstGroups.{first_few, first_is_group, first_some}
use Rattle.msr_words.proofs.Plain.{length-differences}
use Rattle.msr_filling.proofs.NextGroups.{next_first}

-- what is known of the size of the group that begins with a difference
pub record IsSizeThere (before : Option ℤ) (run : List ℤ) (at size : ℕ) : Type 0 where
  pub first : IsCanonicalFirst (drop at (differences before run)) size
  pub some : 1 ≤ size
  pub most : size ≤ 4
  pub room : at + size ≤ length run
  pub within : size ≤ length (drop at (differences before run))
  pub group : IsGroup One (take size (drop at (differences before run)))

pub size_there : (before : Option ℤ) (run : List ℤ) (at size : ℕ) → at < length run
    → IsCanonicalFirst (drop at (differences before run)) size → IsSizeThere before run at size
size_there before run at size less first =
    let m = length-differences before run in
    let ds = drop at (differences before run) in
    let l = length-drop at (differences before run) in
    record {
      first = first;
      some = first_some ds size first.0 first.1;
      most = first_few ds size first.0 first.1;
      room = omega (arith, first.1.within);
      within = first.1.within;
      group = first_is_group ds size first.0 first.1;
    }

-- the word of that group
pub word_there : (before : Option ℤ) (run : List ℤ) (at size : ℕ) (next : SteimWord) → at < length run
    → IsSizeThere before run at size → IsCoded One size next → next.word ≡ group_word One (take size (drop at (differences before run)))
    → IsNextWord One (drop at (differences before run)) next
word_there before run at size next less is coded word_is =
    let ds = drop at (differences before run) in
    let m = length-differences before run in
    let l = length-drop at (differences before run) in
    let first : IsCanonicalFirst (drop at (differences before run)) next.size =
    subst (IsCanonicalFirst (drop at (differences before run))) (sym coded.size_is) is.first in
    record {
      within = omega (arith, is.within);
      follows = λ gs chosen. next_first ds next.size first.0 first.1 gs chosen;
      code_is = rw coded.size_is coded.code_is;
      small = coded.small;
      word_is = rw coded.size_is word_is;
    }
