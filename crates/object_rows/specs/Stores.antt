-- Rows of which none is bad, passed on.
pub use Rattle.plan_rows.specs.Stores.{AreRowsOfAStore, AreRowsOfWidth}
