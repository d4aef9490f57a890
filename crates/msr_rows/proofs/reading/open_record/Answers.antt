-- By the header's bounds and the test of the fields.
use Rattle.std.proofs.Common.{◌≤◌, ◌^◌, sym, ◌∙◌, arith}
use Rattle.std.proofs.lemmas.Result.{err_from_is_err_and}
use Rattle.msr_header.proofs.FoundLemmas.{header_sound}
use Rattle.msr_rows.proofs.RowLemmas.{begins_within, fields_refused, has_area_from, not_of_time, pow_most}
use Rattle.msr_rows.proofs.reading.open_record.Goals.{then-header-eq0, else-header-eq0+in_ok-read_fields}
use Rattle.msr_rows.proofs.reading.open_record.Goals as goal

pub record_length-length-requires : goal.record_length-length-requires
record_length-length-requires c = (header_sound c.args.rest.now c.in_ok-header.header
    (sym c.read_header.ensures.header ∙ c.in_ok-header.was)).high

pub read_fields-requires : goal.read_fields-requires
read_fields-requires c = (header_sound c.args.rest.now c.in_ok-header.header
    (sym c.read_header.ensures.header ∙ c.in_ok-header.was)).high

pub returns-in_err-read_fields-clause-refused : goal.returns-in_err-read_fields-clause-refused
returns-in_err-read_fields-clause-refused c =
    let read = sym c.read_header.ensures.header ∙ c.in_ok-header.was in
    let p = err_from_is_err_and c.from_residual-in_err-read_fields.result
    c.from_residual-in_err-read_fields.ensures.1 in
    rw (p.1, p.2) (fields_refused c.args.rest.now c.in_ok-header.header _
    (record { read = read; some = omega (arith, c.if-header-eq0.false) }) c.in_err-read_fields.ensures.fields)

pub returns-in_err-read_fields-clause-before_time : goal.returns-in_err-read_fields-clause-before_time
returns-in_err-read_fields-clause-before_time c =
    let p = err_from_is_err_and c.from_residual-in_err-read_fields.result
    c.from_residual-in_err-read_fields.ensures.1 in
    rw (p.1, p.2) (not_of_time c.in_ok-header.header _ c.in_err-read_fields.ensures.fields)

pub returns-clause-opened : goal.returns-clause-opened
returns-clause-opened c =
    let bytes = c.args.rest.now in
    let h = c.in_ok-header.header in
    let read = sym c.read_header.ensures.header ∙ c.in_ok-header.was in
    let sound = header_sound bytes h read in
    let length_is = c.record_length-length.ensures in
    let most : 2 ^ h.exponent ≤ 1048576 = pow_most sound.high in
    elim c.if-header-eq0.branch [
      | then-header-eq0 w ↦ rw w.fields-is (record {
        read = read;
        length_is = length_is;
        time = sound.time;
        within = omega (arith, length_is, sound.within);
        small = omega (arith, length_is, most);
        empty = w.if-header-eq0.true;
        fields_are = tt;
      })
      | else-header-eq0+in_ok-read_fields w ↦ rw w.fields-is (record {
        read = read;
        length_is = length_is;
        time = sound.time;
        within = omega (arith, length_is, sound.within);
        small = omega (arith, length_is, most);
        empty = tt;
        fields_are = record {
          has_area = has_area_from bytes h _ read w.if-header-eq0.false w.in_ok-read_fields.ensures.fields.0
              w.in_ok-read_fields.ensures.fields.1;
          begins = begins_within h w.in_ok-read_fields.ensures.area;
          factor = w.in_ok-read_fields.ensures.factor;
          multiplier = w.in_ok-read_fields.ensures.multiplier;
        };
      })
    ]
