-- The logs of clients that are cut now.
pub use Rattle.nam_tells.specs.Logs.{logs_cut, logs_from, tells_cut}
