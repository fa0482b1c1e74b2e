use Rattle.pack.proofs.Packs.{early_bound, early_packed}
use Rattle.pack.proofs.pack_early.Goals as goal

pub pack_by-requires-clause-slots : goal.pack_by-requires-clause-slots
pack_by-requires-clause-slots g c = early_bound _ _ _ c.requires.enough c.terms.ensures

pub returns : goal.returns
returns g c = early_packed _ _ _ _ _ _ _ _ _ _ _ c.requires.enough c.terms.ensures c.pack_by.ensures
