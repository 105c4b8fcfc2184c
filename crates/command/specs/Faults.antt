-- The number and the layer of the fault of a line: those that the layer below gives it. Assumes nothing.
use Rattle.std.specs.Prelude.{ℕ}
use Rattle.faults.specs.declared.layer.Layer.{Layer}
use Rattle.jobtext.specs.Faults.{text_number, text_layer}
use Rattle.offers.specs.Faults.{block_number, block_layer}
use Rattle.terms.specs.Faults.{terms_number, terms_layer}
use Rattle.command.specs.declared.fault.LineFault.{LineFault}
use Rattle.command.specs.declared.fault.LineFault.TheVariants.{Text, Terms, Block}

abbrev pub fault_number : LineFault → ℕ
fault_number (Text fault) = text_number fault
fault_number (Terms fault) = terms_number fault
fault_number (Block fault) = block_number fault

abbrev pub fault_layer : LineFault → Layer
fault_layer (Text fault) = text_layer fault
fault_layer (Terms fault) = terms_layer fault
fault_layer (Block fault) = block_layer fault
