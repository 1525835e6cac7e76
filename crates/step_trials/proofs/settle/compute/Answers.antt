use Rattle.step_trials.proofs.Common.{◌≡◌, Bool, List, length, map, ap, ◌∙◌, cell_value, input_ports, output_port, values, nets_of}
use Rattle.cell_meaning.specs.Words.{bits_of}
use Rattle.step_trials.proofs.CellPorts.{shape-inputs}
use Rattle.step_trials.proofs.TableLemmas.{plain-ports}
use Rattle.step_trials.proofs.settle.compute.Goals as goal

pub input_words-words-requires : goal.input_words-words-requires
input_words-words-requires c = record {
  inputs = rw c.as_slice.ensures (shape-inputs c.args.cell.now c.requires.shape);
  wide = rw c.as_slice.ensures c.requires.wide;
}

pub returns : goal.returns
returns c number =
    let ports = c.args.cell.now.ports in
    let nets = nets_of c.args.table.now in
    let there : bits_of (input_ports ports) c.input_words-words.result ≡ map (values nets) (input_ports ports) = rw c.as_slice.ensures at c.input_words-words.ensures.read in
    c.bits.ensures.bits ∙ c.cell_value.ensures.value ∙ ap (λ (vs : List (List Bool)). cell_value c.args.cell.now.kind c.args.cell.now.is_signed (length (output_port ports)) vs) (there ∙ plain-ports nets number 0 (input_ports ports))
