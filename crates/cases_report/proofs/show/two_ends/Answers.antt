-- `cases_report::show::two_ends`: what is printed is within the buffer.
use Rattle.report.specs.Printing.{printed_fits, printed_part}
use Rattle.cases_report.proofs.show.two_ends.Goals as goal

pub slice_bounds-show_ends-end : goal.slice_bounds-show_ends-end
slice_bounds-show_ends-end g c = printed_fits c.printed-n.ensures

pub slice_bounds-show_ends-end-2 : goal.slice_bounds-show_ends-end-2
slice_bounds-show_ends-end-2 g c = printed_part c.printed-n.ensures
