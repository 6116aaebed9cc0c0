-- What makes a tensor sound: its two complexes are, and it keeps the limits of a complex.
use Rattle.linear.specs.Complexes.{Meaning, WithinLimits}

pub record Sound (Left Right : Type 0) (m : Meaning) : Type 0 where
  pub left : Left
  pub right : Right
  pub limits : WithinLimits m
