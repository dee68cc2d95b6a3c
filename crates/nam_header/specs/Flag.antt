-- Headers with one flag changed.
use Rattle.std.specs.Prelude.{ℕ, true, false}
use Rattle.nam_catalog.specs.declared.form.Form.{Form}
use Rattle.nam_catalog.specs.declared.form.Form.TheVariants.{Narrow, Wide, Held}
use Rattle.nam_header.specs.declared.header.Header.{Header}
use Rattle.nam_header.specs.Header.{header_of}

-- whom a header names that this worker locks
abbrev pub holder_named : Form → ℕ → ℕ
holder_named Narrow worker = 0
holder_named Wide worker = 0
holder_named Held worker = worker

-- the word's header, locked by a worker
abbrev pub locked_by : ℕ → Form → ℕ → Header
locked_by worker form word = record (header_of form word) { locked = true; holder = holder_named form worker }

-- the word's header without a lock
abbrev pub unlocked : Form → ℕ → Header
unlocked form word = record (header_of form word) { locked = false; holder = 0 }

-- the word's header, of a version that has been copied
abbrev pub moved : Form → ℕ → Header
moved form word = record (header_of form word) { moved = true }
