use Rattle.std.proofs.Common.{◌≡◌, ℕ, ◌+◌, ◌^◌, ◌≤◌, List, ◌++◌, [], ◌-◌, arith, Ok, refl, sym, ap, ◌∙◌, rules, length, FitsSigned, w64, to_z-of_z}
use Rattle.msr_header.specs.Reading.{header_of}
use Rattle.msr_header.specs.Writing.{IsWritableHeader, header_as_read, header_bytes}
use Rattle.msr_header.specs.declared.header.Header.{Header}
use Rattle.msr_base.specs.Lengths.{bytes_of}
use Rattle.msr_record.specs.Written.{header_for}
use Rattle.msr_record.proofs.AreaLemmas.{few_samples, exponent_bounds}
use Rattle.msr_record.proofs.WritingLemmas.{appends_record, behind_header}
use Rattle.msr_record.proofs.writing.fill_record.Goals as goal

pub overflow_cast-count : goal.overflow_cast-count
overflow_cast-count c =
    let few = few_samples c.args.run.now.kind
    (bytes_of c.args.record_length) c.args.run.now.before c.args.run.now.samples.now c.requires.can.fits in
    search rules

-- what is said of a header holds of one that is the same
read_by : (g h : Header) (front : List ℕ) (size : ℕ) → g ≡ h → size ≡ g.exponent
    → ((rest : List ℕ) → IsWritableHeader g → 2 ^ g.exponent ≤ 64 + length rest
    → header_of (front ++ rest)
    ≡ Ok (header_as_read g)) → (rest : List ℕ) → IsWritableHeader h → 2 ^ size ≤ 64 + length rest → header_of (front
    ++ rest) ≡ Ok (header_as_read h)
read_by g h front size e s back = λ rest w l.
    let writable : IsWritableHeader g = rw e w in
    let long : 2 ^ g.exponent ≤ 64 + length rest = rw (← s) l in
    back rest writable long ∙ ap (λ (h : Header). Ok (header_as_read h)) e

pub fill_area-requires-clause-fits : goal.fill_area-requires-clause-fits
fill_area-requires-clause-fits c = rw c.storage.ensures c.requires.can.fits.1

pub returns : goal.returns
returns c =
    let exponent = c.exponent-exponent.result in
    let size = bytes_of c.args.record_length in
    let frames = c.in_ok-frames.frames in
    let header = header_for c.args.run.now.key.now c.unwrap-micros.result.0 c.unwrap-micros.result.1
    c.args.run.now.sequence (length c.args.run.now.samples.now) c.args.run.now.kind exponent frames in
    let fits : FitsSigned w64 c.args.run.now.start = search rules in
    let split = rw (c.unwrap-micros.ensures, to_z-of_z fits) at c.split.ensures.found in
    let front : length c.write_header.result ≡ 64 = search rules in
    let least = c.args.record_length.least in
    let long : length c.args.bytes.now ≡ bytes_of c.args.record_length = c.requires.size in
    let area_long : length c.fill_area.new.area ≡ bytes_of c.args.record_length - 64 = search rules in
    let joined = c.put_header.ensures ∙ ap (λ (a : List ℕ). c.write_header.result ++ a)
    (behind_header c.args.bytes.now c.fill_area.new.area (omega arith)) in
    let same : exponent ≡ c.header_for-header.result.exponent =
    sym (ap (λ (h : Header). h.exponent) c.header_for-header.ensures.header) in
    let bounds = exponent_bounds size exponent c.exponent-exponent.ensures c.args.record_length.least
    c.args.record_length.most in
    appends_record [] c.put_header.new.bytes c.write_header.result c.fill_area.new.area c.args.run.now.key.now
    c.args.run.now.start c.args.run.now.sequence c.args.run.now.before c.args.run.now.samples.now
    c.args.run.now.kind size exponent frames c.unwrap-micros.result.0 c.unwrap-micros.result.1
    (length c.args.run.now.samples.now)
    joined
    refl
    (c.write_header.ensures.bytes ∙ ap header_bytes c.header_for-header.ensures.header)
    front (rw c.storage.ensures at c.in_ok-frames.ensures.written) area_long
    (read_by c.header_for-header.result header c.write_header.result exponent c.header_for-header.ensures.header
    same c.write_header.ensures.read_back)
    (rw c.storage.ensures at c.in_ok-frames.ensures.carried) (rw c.storage.ensures at c.in_ok-frames.ensures.reverse)
    split c.exponent-exponent.ensures bounds.0 bounds.1
    c.requires.can.quality c.requires.can.normal c.requires.can.some c.header_for-header.ensures.rate

pub unwrap-micros-requires : goal.unwrap-micros-requires
unwrap-micros-requires c =
    let fits : FitsSigned w64 c.args.run.now.start = search rules in
    (rw (to_z-of_z fits) at c.split.ensures.range).1 c.requires.can.instant
