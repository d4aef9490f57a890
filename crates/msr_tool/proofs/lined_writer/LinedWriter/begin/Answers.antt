use Rattle.std.proofs.Common.{rules, FitsSigned, w64, to_z-of_z}
use Rattle.msr_tool.proofs.Lines.{grows_new}
use Rattle.msr_tool.proofs.lined_writer.LinedWriter.begin.Goals as goal

pub returns-clause-begun : goal.returns-clause-begun
returns-clause-begun c = λ start now packed h.
    let fits : FitsSigned w64 c.args.row.now.start = search rules in
    let begun = rw (to_z-of_z fits) at c.begin.ensures.begun in
    let l = rw (← c.self.view_is) at h in
    let wrote = rw (rw (← c.self.view_is) at c.requires.last) at l.written in
    record { written = begun start now packed wrote.0 wrote.1; are_lines = l.are_lines; contents = l.contents }

pub returns-clause-grows : goal.returns-clause-grows
returns-clause-grows c =
    let fits : FitsSigned w64 c.args.row.now.start = search rules in
    grows_new c.begin.result c.args.row.now c.begin.ensures.count c.begin.ensures.key
    (rw (to_z-of_z fits) at c.begin.ensures.start) c.requires.writable c.requires.row
