-- What the next word of a client that reads leads to, and so what the end of its read tells.
use Rattle.std.proofs.Common.{Some, ap, subst, sym, ℕ, ◌∙◌, ◌≡◌}
use Rattle.nam_calls.specs.Fits.{ReadFits}
use Rattle.nam_calls.specs.Memory.{memory}
use Rattle.nam_calls.specs.Reading.{read_after, read_verb}
use Rattle.nam_calls.specs.declared.reading.ReadingEnd.{ReadingEnd}
use Rattle.nam_calls.specs.declared.reading.ReadingEnd.TheVariants.{Astray, Got, Passed}
use Rattle.nam_calls.specs.declared.reading.Sight.{Sight}
use Rattle.nam_catalog.specs.declared.shape.Shape.{Shape}
use Rattle.nam_ghost.specs.Ghost.{Ghost}
use Rattle.nam_ghost.specs.Reads.{ReadOkAt, ReaderOk}
use Rattle.nam_layout.specs.declared.field.Field.{Field}
use Rattle.nam_protocol.specs.Reader.{Reader, reader_of}
use Rattle.nam_protocol.specs.declared.client.ClientState.{ClientState}
use Rattle.nam_reads.proofs.FactsLemmas.{row_facts}
use Rattle.nam_reads.proofs.ReadLemmas.{read_found}
use Rattle.nam_reads.proofs.ReaderLemmas.{reading, reading_taken}
use Rattle.nam_reads.specs.Comes.{Comes, row_sight}
use Rattle.nam_reads.specs.FoundLaw.{NeverAstrayLaw, NewestLaw, ReadsAs, TooOldLaw, now_read}
use Rattle.nam_reads.specs.ReadsLaw.{Stands}
use Rattle.nam_store.specs.Store.{Store, client_at, found_word, next_verb}
use Rattle.nam_verbs.specs.VerbAt.{VerbAt, found_at}
use Rattle.nam_verbs.specs.declared.now.Now.TheVariants.{Over}

module _ (shape : Shape) (store : Store) (ghost : Ghost) (stands : Stands shape store ghost) (nth : ℕ)
    (client : ClientState) (here : client_at store nth ≡ Some client) (reader : Reader)
    (reads : reader_of shape client ≡ Some reader) where
  abbrev m : Field → ℕ
  m = memory shape store.words

  abbrev row : ℕ
  row = reader.sight.place.row

  abbrev Leads : Sight → ℕ → Type 0
  Leads sight found =
      Comes shape ghost.chains ghost.rings m ghost.cells reader.seen row
      (read_after sight reader.seen reader.at found)

  -- what it may rely on
  pub relies : ReadOkAt shape ghost.chains ghost.rings m ghost.cells reader.seen row reader.sight.place reader.at
  relies =
      subst (ReaderOk shape ghost.chains ghost.rings m ghost.cells) reads (stands.reads nth client here)

  -- what the word that its verb finds leads to
  pub word_leads : Comes shape ghost.chains ghost.rings m ghost.cells reader.seen row
      (read_after reader.sight reader.seen reader.at (found_word shape store client))
  word_leads =
      let is = reading shape store stands.base nth client here reader reads in
      let taken = reading_taken shape store stands.base nth client here reader reads in
      let sight = row_sight shape row in
      let facts = row_facts shape store ghost stands reader.seen taken row is.inside in
      let fits = subst (λ (s : Sight). ReadFits s reader.at) is.sight_is is.fits in
      let o = subst (λ (s : Sight).
      ReadOkAt shape ghost.chains ghost.rings m ghost.cells reader.seen row s.place reader.at) is.sight_is relies in
      let verb : next_verb shape client ≡ read_verb sight reader.at =
      is.verb_is ∙ ap (λ (s : Sight). read_verb s reader.at) is.sight_is in
      subst (λ (s : Sight). Leads s (found_word shape store client)) (sym is.sight_is)
      (subst (Leads sight) (sym (ap (λ (v : VerbAt Field). found_at m v) verb))
      (read_found shape ghost.chains ghost.rings m ghost.cells reader.seen row facts stands.cells.are reader.at fits o))

module _ (shape : Shape) (store : Store) (ghost : Ghost) (stands : Stands shape store ghost) (reader : Reader)
    (as_reads : ReadsAs shape store reader) where
  -- so what its end tells
  pub end_tells : (end : ReadingEnd) → now_read shape store reader as_reads ≡ Over end
      → Comes shape ghost.chains ghost.rings (memory shape store.words) ghost.cells reader.seen
      reader.sight.place.row (Over end)
  end_tells end is =
      subst (Comes shape ghost.chains ghost.rings (memory shape store.words) ghost.cells reader.seen
      reader.sight.place.row) is
      (word_leads shape store ghost stands as_reads.nth as_reads.client as_reads.here reader as_reads.reads)

pub newest_got : NewestLaw
newest_got shape store ghost stands reader reads value is =
    end_tells shape store ghost stands reader reads (Got value) is

pub too_old : TooOldLaw
too_old shape store ghost stands reader reads worker entry horizon is =
    end_tells shape store ghost stands reader reads (Passed worker entry horizon) is

pub never_astray : NeverAstrayLaw
never_astray shape store ghost stands reader reads is = end_tells shape store ghost stands reader reads Astray is
