-- the writing back of headers, as a machine
use Rattle.std.specs.Prelude.{ℕ, List}
use Rattle.nam_verbs.specs.declared.now.Now.{Now}
use Rattle.nam_verbs.specs.Running.{Running}
use Rattle.nam_layout.specs.declared.field.Place.{Place}
use Rattle.nam_calls.specs.Lock.{unlock_begin, unlock_verb_by, unlock_after, unlock_left}
use Rattle.nam_lock.specs.Headers.{header_address, headers_end}

-- the records, their headers, and how many of these were written back, unless all were
pub record Unlocking : Type 0 where
  pub places : List Place
  pub headers : List ℕ
  pub state : Now ℕ (Unit {0})

abbrev pub unlocking : List Place → List ℕ → Unlocking
unlocking places headers = record { places = places; headers = headers; state = unlock_begin places }

-- the same as a running call, whose words are the headers of the places
abbrev pub running : Unlocking → Running Place ℕ (Unit {0})
running a = record {
  address = header_address;
  reach = headers_end a.places;
  verb = unlock_verb_by (λ place. place) a.places a.headers;
  after = λ given found. unlock_after a.places given;
  left = unlock_left a.places;
  state = a.state;
}
