-- Walks put together from the entries that were told.
use Rattle.std.proofs.Common.{ap, codes, ◌≡◌, ℕ, Bool, true, false, List, [], ◌∷◌, ◌++◌, refl, sym, take, drop, Option, String, Ok, Err}
use Rattle.std.specs.List.{AllByRecursion}
use Rattle.std.proofs.lemmas.List.{take-append-drop}
use Rattle.msr_devices.specs.Device.{Device, Takes}
use Rattle.msr_devices.specs.declared.fault.DeviceFault.{DeviceFault}
use Rattle.msr_devices.specs.declared.fault.DeviceFault.TheVariants.{Failed, Memory}
use Rattle.msr_devices.proofs.Chaining.{takes_append, calm_same}
use Rattle.msr_folders.specs.Found.{Finds}
use Rattle.msr_folders.specs.Visits.{IsWalk, StopsAt, StopsPrefix}
use Rattle.msr_folders.specs.declared.found.WalkFound.{WalkFound}
use Rattle.msr_folders.proofs.VisitLemmas as visits
use Rattle.msr_folders.proofs.VisitLemmas.{part_none}
use Rattle.msr_folders.proofs.WalkLemmas as walks
use Rattle.msr_report.specs.Writing.{TakesPrefix}
use Rattle.msr_replace.specs.Entries.{ExchangeEntry, IsExchangeEntry, IsExchangeEntryLine, IsStoppedAt, IsExchangeTally, exchange_count, has_failed, is_word}
use Rattle.msr_replace.specs.Lines.{bytes_text}
use Rattle.msr_replace.specs.Sums.{count_kept, replace_words, sums_text, exchange_summary, tally_line, undo_words}
use Rattle.msr_replace.specs.Walk.{HasCome, ReplacesDays, StopsTellingExchanges, TellsFound, TellsExchanges}
use Rattle.msr_replace.specs.declared.words.Word.{Word}
use Rattle.msr_replace.specs.declared.progress.Progress.{Progress}
use Rattle.msr_replace.specs.declared.tally.Tally.{Tally}

pub stops_more : (out0 out1 out : Device) (old mid : Progress) (fault : DeviceFault)
    → TellsExchanges out0 out1 old mid → StopsTellingExchanges out1 out fault → StopsTellingExchanges out0 out fault
stops_more out0 out1 out old mid fault first second =
    visits.stops_more IsExchangeEntry IsExchangeEntryLine HasCome out0 out1 out old mid fault first second

-- nothing was printed
pub none_told : (out : Device) → StopsTellingExchanges out out Memory
none_told out = (part_none IsExchangeEntry IsExchangeEntryLine out, (calm_same out).steady)

-- a prefix of the text of a walk was printed
abbrev pub WalksInPart : (undo : Bool) → Device → Device → Type 0
WalksInPart undo out0 out = walks.WalksInPart IsExchangeEntry IsExchangeEntryLine (exchange_summary undo) out0 out

pub stops_entries : (undo : Bool) (out0 out : Device) (fault : DeviceFault) → StopsTellingExchanges out0 out fault
    → StopsAt (WalksInPart undo out0 out) out0 out fault
stops_entries undo = walks.stops_entries IsExchangeEntry IsExchangeEntryLine (exchange_summary undo)

pub walk_stops : {Z : Type 0} (undo : Bool) (out0 out : Device) (failed : Option (String Z)) (fault : DeviceFault)
    → StopsAt (WalksInPart undo out0 out) out0 out fault → ReplacesDays undo out0 out failed (Err fault)
walk_stops undo out0 out failed Failed h =
    record { printed = h.0.printed; prints = h.0.prints; ends = h.0.walk; failing = tt }
walk_stops undo out0 out failed Memory h =
    record { printed = h.0.printed; prints = h.0.prints; ends = h.0.walk; failing = tt }

-- counts that are the same are told the same
sums_same : (one other : Word → ℕ) → ((word : Word) → one word ≡ other word) → (words : List Word)
    → sums_text one words ≡ sums_text other words
sums_same one other same [] = refl
sums_same one other same (word ∷ words) = rw (same word, sums_same one other same words) refl

line_same : (t u : List ℕ) (a b c d : ℕ) → t ≡ u → a ≡ b → c ≡ d
    → (codes "total" ++ t) ++ bytes_text a c ≡ (codes "total" ++ u) ++ bytes_text b d
line_same t u a b c d text before after = rw (text, before, after) refl

-- the last line, from the counts of the entries
pub summary_is : (undo : Bool) (entries : List ExchangeEntry) (tally : Tally) → IsExchangeTally entries tally
    → tally_line undo tally ≡ exchange_summary undo entries
summary_is false entries tally h = line_same _ _ _ _ _ _
    (sums_same (count_kept tally) (λ word. exchange_count (is_word word) entries) h.counts replace_words) h.before h.after
summary_is true entries tally h = ap (λ text. (codes "total" ++ text) ++ codes "\n")
    (sums_same (count_kept tally) (λ word. exchange_count (is_word word) entries) h.counts undo_words)

pub stops_summary : (undo : Bool) (out0 out1 out : Device) (old new : Progress) (fault : DeviceFault)
    (told : TellsExchanges out0 out1 old new) → StopsPrefix out1 out (exchange_summary undo told.entries) fault
    → StopsAt (WalksInPart undo out0 out) out0 out fault
stops_summary undo = walks.stops_summary IsExchangeEntry IsExchangeEntryLine (exchange_summary undo) HasCome

pub walk_ends : (undo : Bool) (out0 out1 out : Device) (old new : Progress) (found : WalkFound)
    → (told : TellsExchanges out0 out1 old new) → Takes out1 out (exchange_summary undo told.entries)
    → TellsFound told.entries found → IsStoppedAt told.entries new.failed → ReplacesDays undo out0 out new.failed (Ok found)
walk_ends undo out0 out1 out old new found told prints end stopped =
    let walk : IsWalk IsExchangeEntry IsExchangeEntryLine (exchange_summary undo) (told.lines ++ exchange_summary undo told.entries) told.entries = record {
      lines = told.lines;
      are_entries = told.are_entries;
      are_lines = told.are_lines;
      whole = refl;
    } in
    record {
      printed = told.lines ++ exchange_summary undo told.entries;
      prints = takes_append out0 out1 out told.lines (exchange_summary undo told.entries) told.prints prints;
      ends = (told.entries, walk, end);
      failing = (told.entries, walk, stopped);
    }

-- what the counts find is what the entries tell
pub tells_end : (entries : List ExchangeEntry) (tally : Tally) (found : WalkFound) → IsExchangeTally entries tally
    → Finds tally.unwell tally.well found → TellsFound entries found
tells_end entries tally found counts finds = rw (counts.unwell, counts.well) at finds

-- a prefix of a text
pub front_piece : (old new : Device) (text : List ℕ) (n : ℕ) → Takes old new (take n text) → TakesPrefix old new text
front_piece old new text n piece = record {
  taken = take n text;
  rest = drop n text;
  takes = piece;
  whole = sym (take-append-drop n text);
}

pub goes_on : (before : List ExchangeEntry) (entry : ExchangeEntry) → AllByRecursion (λ (e : ExchangeEntry). has_failed e.outcome ≡ false) before
    → has_failed entry.outcome ≡ false → AllByRecursion (λ (e : ExchangeEntry). has_failed e.outcome ≡ false) (before ++ entry ∷ [])
goes_on [] entry all one = (one, tt)
goes_on (e ∷ before) entry all one = (all.0, goes_on before entry all.1 one)
