use Rattle.std.proofs.Common.{◌≡◌, Some, inr, ap, ◌∙◌, refl}
use Rattle.std.specs.Map.{lookup}
use Rattle.cal_scan.specs.Names.{same_name}
use Rattle.tdb_read.specs.Sound.{IsName, IsPhaseText}
use Rattle.tdb_read.specs.Constituent.{sited}
use Rattle.tdb_read.proofs.Entries.{All-insert, same_name-true, name_known, value_known, names_hold, values_hold}
use Rattle.tdb_read.proofs.db.Db.enter_sites.Goals as goal

pub invariant_of-result : goal.invariant_of-result
invariant_of-result c =
    let phase = c.requires.phase in
    let known : lookup (same_name c.args.name) c.self.inside.phases.entries ≡ Some phase = ap (λ d. lookup (same_name c.args.name) d.phases) c.self.view_is ∙ c.requires.known in
    let old : IsPhaseText phase = value_known IsPhaseText c.args.name c.self.inside.phases.entries phase (values_hold IsName IsPhaseText c.self.inside.phases.entries c.self.invariant.phases) known in
    let name : IsName c.args.name = name_known IsName c.args.name c.self.inside.phases.entries phase (names_hold IsName IsPhaseText c.self.inside.phases.entries c.self.invariant.phases) known in
    rw (c.sited_phases.ensures phase known) (record {
      elements = c.self.invariant.elements;
      functions = c.self.invariant.functions;
      phases =
          All-insert same_name (λ e. IsName e.0 × IsPhaseText e.1) same_name-true c.self.inside.phases.entries c.args.name (sited phase c.args.sites) c.self.invariant.phases
          (name, record { suffix = old.suffix; least = old.least; most = old.most; ratios = old.ratios; shape = inr c.requires.count; sites = c.requires.lists });
      parameters = c.self.invariant.parameters;
      types = c.self.invariant.types;
    })

pub returns : goal.returns
returns c = λ text known.
    rw (← c.self.view_is) (rw (c.sited_phases.ensures text (ap (λ d. lookup (same_name c.args.name) d.phases) c.self.view_is ∙ known)) refl)
