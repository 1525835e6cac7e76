use Rattle.mutation_sites.proofs.Common.{◌≡◌, ℕ, List, [], ◌∷◌, ◌++◌, map, rules, refl, ap, ◌∙◌, Span, Bit, RawNetlist, Outputs, Site, Readers, Change, Nothing, change_of, readers_at, port_at}
use Rattle.mutation_sites.proofs.Common.{port_connected, cells_connected, registers_connected, new_bit, new_cells, bit_of, control_of, span_at, mutant_of}
use Rattle.netlist_core.specs.declared.port.Port as port
use Rattle.mutation_sites.proofs.mutant.parts.Goals as goal

inputs-same : (new : Bit) (ports : List port.Port) → map (port_connected Nothing new) ports ≡ ports
inputs-same new [] = refl
inputs-same new (p ∷ more) = ap (λ (rest : List port.Port). p ∷ rest) (inputs-same new more)

-- what was found of the netlist at the site
record Found (netlist : RawNetlist) (site : Site) (net : ℕ) (readers : Readers) (new : Bit) (bits : List Bit) (bit control : Bit) (span : Span) (change : Change) : Type 0 where
  pub readers_is : readers ≡ readers_at netlist site.place site.port site.bit
  pub new_is : new ≡ new_bit site.mode net
  pub bits_is : bits ≡ port_at netlist site.place site.port
  pub bit_is : bit ≡ bit_of bits site.bit
  pub control_is : control ≡ control_of bits site.bit
  pub span_is : span ≡ span_at netlist site.place
  pub change_is : change ≡ change_of readers Outputs

-- what was made of it
record Made (netlist : RawNetlist) (site : Site) (net : ℕ) (readers : Readers) (new bit control : Bit) (span : Span) (change : Change) (parts : RawNetlist) : Type 0 where
  pub top_is : parts.top ≡ netlist.top
  pub clock_is : parts.clock ≡ netlist.clock
  pub inputs_is : parts.inputs ≡ map (port_connected Nothing new) netlist.inputs
  pub outputs_is : parts.outputs ≡ map (port_connected change new) netlist.outputs
  pub registers_is : parts.registers ≡ registers_connected readers new 0 netlist.registers
  pub cells_is : parts.cells ≡ cells_connected readers new 0 netlist.cells ++ new_cells site.mode bit control net span

same-parts : (a b : RawNetlist) → a.top ≡ b.top → a.clock ≡ b.clock → a.inputs ≡ b.inputs → a.outputs ≡ b.outputs → a.registers ≡ b.registers → a.cells ≡ b.cells → a ≡ b
same-parts a b top clock inputs outputs registers cells =
    let same : record { top = a.top; clock = a.clock; inputs = a.inputs; outputs = a.outputs; registers = a.registers; cells = a.cells } ≡ record { top = b.top; clock = b.clock; inputs = b.inputs; outputs = b.outputs; registers = b.registers; cells = b.cells } = cc in
    same

made : (netlist : RawNetlist) (site : Site) (net : ℕ) (readers : Readers) (new : Bit) (bits : List Bit) (bit control : Bit) (span : Span) (change : Change) (parts : RawNetlist) → Found netlist site net readers new bits bit control span change → Made netlist site net readers new bit control span change parts → parts ≡ mutant_of netlist site net
made netlist site net readers new bits bit control span change parts found is =
    let a = found.readers_is in
    let b = found.new_is in
    let d = found.bits_is in
    let e = found.bit_is in
    let f = found.control_is in
    let g = found.span_is in
    let h = found.change_is in
    let whole = mutant_of netlist site net in
    let outputs_same : map (port_connected change new) netlist.outputs ≡ whole.outputs = cc in
    let registers_same : registers_connected readers new 0 netlist.registers ≡ whole.registers = cc in
    let cells_same : cells_connected readers new 0 netlist.cells ++ new_cells site.mode bit control net span ≡ whole.cells = cc in
    same-parts parts whole is.top_is is.clock_is (is.inputs_is ∙ inputs-same new netlist.inputs) (is.outputs_is ∙ outputs_same) (is.registers_is ∙ registers_same) (is.cells_is ∙ cells_same)

pub returns : goal.returns
returns c =
    let raw = c.raw-raw.ensures.value in
    made c.args.netlist.now.raw c.args.site.now c.args.net c.readers_at.result c.new_bit.result c.port_at-bits.result.now c.bit_of.result c.control_of.result c.span_at.result c.at_outputs.result _
    (record {
      readers_is = c.readers_at.ensures ∙ ap (λ (n : RawNetlist). readers_at n c.args.site.now.place c.args.site.now.port c.args.site.now.bit) raw;
      new_is = c.new_bit.ensures;
      bits_is = c.port_at-bits.ensures ∙ ap (λ (n : RawNetlist). port_at n c.args.site.now.place c.args.site.now.port) raw;
      bit_is = c.bit_of.ensures;
      control_is = c.control_of.ensures;
      span_is = c.span_at.ensures ∙ ap (λ (n : RawNetlist). span_at n c.args.site.now.place) raw;
      change_is = c.at_outputs.ensures;
    })
    (record {
      top_is = search rules;
      clock_is = search rules;
      inputs_is = search rules;
      outputs_is = search rules;
      registers_is = c.in_ok-registers_connected.ensures;
      cells_is = c.in_ok-mutant_cells.ensures;
    })
