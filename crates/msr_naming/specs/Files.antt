-- The names of a file that is made.
use Rattle.msr_tree.specs.Steps.{Path}

-- the one that it gets, and the one beside it under which it is made
pub record FileNames : Type 0 where
  pub path : Path
  pub part : Path
