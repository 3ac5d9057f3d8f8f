-- What is seen of a bay over files.
use Rattle.std.specs.Prelude.{ℕ, None}
use Rattle.end_points.specs.Bay.{BayView}

-- how many devices it gave, and how often it failed
pub record Shelf : Type 0 where
  pub given : ℕ
  pub faults : ℕ

-- as a bay: it tells no contents
abbrev pub shelf_view : Shelf → BayView
shelf_view s = record { given = s.given; names = None }
