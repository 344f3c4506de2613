-- `cases_report::show::whole`: what is printed is within the buffer.
use Rattle.report.specs.Printing.{printed_fits, printed_part}
use Rattle.cases_report.proofs.show.whole.Goals as goal

pub slice_bounds-write_all-end : goal.slice_bounds-write_all-end
slice_bounds-write_all-end g c = printed_fits c.printed-n.ensures

pub slice_bounds-write_all-end-2 : goal.slice_bounds-write_all-end-2
slice_bounds-write_all-end-2 g c = printed_part c.printed-n.ensures
