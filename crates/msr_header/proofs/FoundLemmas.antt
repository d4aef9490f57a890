-- What is known of a header that was read.
use Rattle.std.proofs.Common.{◌≡◌, ℕ, ◌^◌, ◌≤◌, Bool, true, false, ◌&&◌, List, [], ◌∷◌, ◌++◌, length, refl, Option, Some, None, Ok}
use Rattle.std.specs.Prelude.{is_some, nat_le}
use Rattle.std.proofs.lemmas.Bool.{and_parts, leb-true}
use Rattle.msr_time.specs.Instant.{IsTime, is_time}
use Rattle.msr_time.proofs.TimeLemmas.{is_time_parts}
use Rattle.msr_header.specs.Layout.{order_of, time_at}
use Rattle.msr_header.specs.Chain.{chain_end, chain_faults, chain_offsets}
use Rattle.msr_header.specs.Reading.{faults_of, start_faults, data_faults, fields_of, fields_unless, header_of, is_data_record, is_quality, data_blockette, data_blockette_byte}
use Rattle.msr_base.specs.Faults.{first_fault, unless}
use Rattle.msr_header.specs.declared.header.Header.{Header}
use Rattle.msr_header.specs.declared.fault.HeaderFault.{HeaderFault}
use Rattle.msr_header.specs.declared.fault.HeaderFault.TheVariants.{Truncated, NotARecord, BadTime, NoBlockette1000, BadExponent, BadOrder, RecordCut, ChainPastRecord}

-- the record's length is one that is read, the bytes have it and the chain ends within it, and the start
-- and the quality indicator passed their tests
pub record IsSound (bytes : List ℕ) (h : Header) : Type 0 where
  pub low : 7 ≤ h.exponent
  pub high : h.exponent ≤ 20
  pub within : 2 ^ h.exponent ≤ length bytes
  pub chain : h.chain_end ≤ 2 ^ h.exponent
  pub time : IsTime h.time
  pub quality : is_quality h.quality ≡ true
  pub exponent_is : h.exponent ≡ data_blockette_byte bytes 6
  pub chain_end_is : h.chain_end ≡ chain_end (chain_offsets (order_of bytes) bytes)

ok_parts : (bytes : List ℕ) (h : Header) (f : Option HeaderFault) → fields_unless bytes f ≡ Ok h
    → (h ≡ fields_of bytes) × (f ≡ None)
ok_parts bytes h None e = (cc, refl)
ok_parts bytes h (Some fault) e = cc

both_none : (xs ys : List (Option HeaderFault)) → first_fault (xs ++ ys) ≡ None
    → (first_fault xs ≡ None) × (first_fault ys ≡ None)
both_none [] ys e = (refl, e)
both_none (None ∷ xs) ys e = both_none xs ys e
both_none (Some fault ∷ xs) ys e = cc

passed : (test : Bool) (fault : HeaderFault) (rest : List (Option HeaderFault))
    → first_fault (unless test fault ∷ rest) ≡ None → (test ≡ true) × (first_fault rest ≡ None)
passed true fault rest e = (refl, e)
passed false fault rest e = cc

-- the start passed its tests
record PassesStart (bytes : List ℕ) : Type 0 where
  record_start : is_data_record bytes ≡ true
  time : IsTime (time_at (order_of bytes) bytes)

start_passed : (bytes : List ℕ) → first_fault (start_faults bytes) ≡ None → PassesStart bytes
unfolding start_faults
start_passed bytes e =
    let third = unless (is_time (time_at (order_of bytes) bytes)) BadTime ∷ [] in
    let second = unless (is_data_record bytes) NotARecord ∷ third in
    let a = passed (nat_le 48 (length bytes)) Truncated second e in
    let b = passed (is_data_record bytes) NotARecord third a.1 in
    let c = passed (is_time (time_at (order_of bytes) bytes)) BadTime [] b.1 in
    record { record_start = b.0; time = is_time_parts _ c.0 }

-- blockette 1000, the record's length and the chain's end passed their tests
record PassesData (bytes : List ℕ) : Type 0 where
  low : 7 ≤ data_blockette_byte bytes 6
  high : data_blockette_byte bytes 6 ≤ 20
  within : 2 ^ data_blockette_byte bytes 6 ≤ length bytes
  chain : chain_end (chain_offsets (order_of bytes) bytes) ≤ 2 ^ data_blockette_byte bytes 6

data_passed : (bytes : List ℕ) → first_fault (data_faults bytes) ≡ None → PassesData bytes
unfolding data_faults
data_passed bytes e =
    let exponent = data_blockette_byte bytes 6 in
    let end = chain_end (chain_offsets (order_of bytes) bytes) in
    let past = unless (nat_le end (2 ^ exponent)) ChainPastRecord ∷ [] in
    let cut = unless (nat_le (2 ^ exponent) (length bytes)) RecordCut ∷ past in
    let order = unless (nat_le (data_blockette_byte bytes 5) 1) BadOrder ∷ cut in
    let small = unless (nat_le 7 exponent && nat_le exponent 20) BadExponent ∷ order in
    let a = passed (is_some (data_blockette bytes)) NoBlockette1000 small e in
    let b = passed (nat_le 7 exponent && nat_le exponent 20) BadExponent order a.1 in
    let c = passed (nat_le (data_blockette_byte bytes 5) 1) BadOrder cut b.1 in
    let d = passed (nat_le (2 ^ exponent) (length bytes)) RecordCut past c.1 in
    let f = passed (nat_le end (2 ^ exponent)) ChainPastRecord [] d.1 in
    let range = and_parts _ _ b.0 in
    record {
      low = leb-true _ _ range.0;
      high = leb-true _ _ range.1;
      within = leb-true _ _ d.0;
      chain = leb-true _ _ f.0;
    }

fields_sound : (bytes : List ℕ) → first_fault (faults_of bytes) ≡ None → IsSound bytes (fields_of bytes)
unfolding faults_of fields_of
fields_sound bytes e =
    let chain = chain_faults (order_of bytes) bytes [] (chain_offsets (order_of bytes) bytes) in
    let a = both_none (start_faults bytes ++ chain) (data_faults bytes) e in
    let start = start_passed bytes (both_none (start_faults bytes) chain a.0).0 in
    let found = data_passed bytes a.1 in
    record {
      low = found.low;
      high = found.high;
      within = found.within;
      chain = found.chain;
      time = start.time;
      quality = (and_parts _ _ (and_parts _ _ start.record_start).0).1;
      exponent_is = refl;
      chain_end_is = refl;
    }

pub header_sound : (bytes : List ℕ) (h : Header) → header_of bytes ≡ Ok h → IsSound bytes h
unfolding header_of
header_sound bytes h e =
    let p = ok_parts bytes h (first_fault (faults_of bytes)) e in
    rw p.0 (fields_sound bytes p.1)
