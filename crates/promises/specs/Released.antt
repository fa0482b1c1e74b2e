-- What stepping answers for a block that the packer gave: "Stepping must never raise a false alarm on a release". Assumes nothing.
use Rattle.std.specs.Prelude.{ℕ, List}
use Rattle.layout.specs.Tree.{Actions}
use Rattle.layout.specs.Pack.{ReadsAs}
use Rattle.tied_steps.specs.Tied.{Tied}

-- the sheet reads whole as a tree, and the block q is tied to it
pub record Released (s book q : List ℕ) : Type 0 where
  pub tree : Actions
  pub reads : ReadsAs s book tree
  pub tied : Tied tree q
