use Rattle.layout_flow.proofs.Whole.{flow_below, flow_fits, fits_flow, printed_flow}
use Rattle.layout_flow.proofs.laws.flows.Goals as goal

pub returns : goal.returns
returns c = record {
  below = λ roles r size flow side ascend is_flow cut. flow_below roles r size ascend flow is_flow side cut;
  fits = λ roles r size ascend low high. (flow_fits roles r size low high ascend, fits_flow roles r size low high ascend);
  printed = λ roles r size set ascend low high printed. printed_flow roles r size low high ascend set printed;
}
