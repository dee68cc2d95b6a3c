-- A scan that its next word ends lists exactly the rows of its range.
use Rattle.std.proofs.Common.{List, Option, Some, ap, length, refl, subst, sym, ℕ, ◌∙◌, ◌≡◌}
use Rattle.nam_calls.specs.Fits.{IsTableOf}
use Rattle.nam_calls.specs.Memory.{memory}
use Rattle.nam_calls.specs.Words.{capacity_of}
use Rattle.nam_catalog.specs.declared.shape.Shape.{Shape}
use Rattle.nam_ghost.specs.Ghost.{Ghost}
use Rattle.nam_ghost.specs.Keys.{ViewOk, key_view}
use Rattle.nam_ghost.specs.Versions.{Chain}
use Rattle.nam_layout.specs.declared.field.Field.{Field}
use Rattle.nam_protocol.specs.Carries.{IsBetween}
use Rattle.nam_protocol.specs.ClientFits.{NowFits}
use Rattle.nam_protocol.specs.Log.{with_reads}
use Rattle.nam_protocol.specs.Reader.{reader_of}
use Rattle.nam_protocol.specs.ScanCall.{scanned_items}
use Rattle.nam_protocol.specs.declared.client.Answer.{Answer}
use Rattle.nam_protocol.specs.declared.client.CallPoint.{CallPoint}
use Rattle.nam_protocol.specs.declared.client.CallPoint.TheVariants.{Scanning}
use Rattle.nam_protocol.specs.declared.client.ClientState.{ClientState}
use Rattle.nam_protocol.specs.declared.client.Open.{Open}
use Rattle.nam_protocol.specs.declared.client.Scanned.{Scanned}
use Rattle.nam_protocol.specs.declared.scan.ScanPoint.{ScanPoint}
use Rattle.nam_protocol.specs.declared.scan.ScanPoint.TheVariants.{ScanKey, ScanRead}
use Rattle.nam_scans.proofs.ClientLemmas.{ReadsNewest}
use Rattle.nam_scans.proofs.ListedLemmas.{range_items, range_listed}
use Rattle.nam_scans.proofs.WordLemmas.{key_goes, read_goes}
use Rattle.nam_scans.specs.Gathered.{HasGathered, ScanClientOk, ScanOk, ScansOk}
use Rattle.nam_scans.specs.ScannedLaw.{CompleteLaw, EndsScan, FindsKey, ItemsLaw, ListsRange, client_then}
use Rattle.nam_scans.specs.ScansLaw.{Stands}
use Rattle.nam_store.specs.Store.{Store, client_at, found_word}
use Rattle.nam_verbs.specs.declared.now.Now.{Now}
use Rattle.nam_verbs.specs.declared.now.Now.TheVariants.{At, Over}
use Rattle.si_model.specs.Rows.{Rows, items_between, key_at}
use Rattle.si_model.specs.declared.log.Log.{Log}
use Rattle.si_model.specs.declared.row.Item.{Item}
use Rattle.nam_protocol.specs.declared.client.Answer.TheVariants as client_answer

-- 1. The word that ends the scan

-- how many rows an answer counts
abbrev counted : Option (Now CallPoint Answer) → ℕ
counted (Some (Over (client_answer.Scanned count))) = count
counted _ = 0

module _ (shape : Shape) (store : Store) (chains : ℕ → Chain) (attempt : Open) (table low high count : ℕ)
    (log : Log) where
  abbrev m : Field → ℕ
  m = memory shape store.words

  -- a client that is answered so lists what was gathered up to the table's end
  abbrev Lists : ClientState → Type 0
  Lists later = later.call ≡ Some (Over (client_answer.Scanned count)) → (rows : List Scanned)
      × HasGathered shape m chains attempt.state table low high (capacity_of shape table) rows
      × (later.log ≡ with_reads log (scanned_items table rows)) × (length (scanned_items table rows) ≡ count)

  word_lists : (client : ClientState) (at : ScanPoint) → client.log ≡ log
      → let before = record client { call = Some (At (Scanning table low high at)); txn = Some attempt } in
      ViewOk shape m (key_view before.call) → ScanOk shape m chains attempt.state table low high at client.scanned
      → ReadsNewest shape m chains m (found_word shape store before) (reader_of shape before)
      → Lists (client_then shape store before)
  word_lists client (ScanKey position) same view ok newest =
      let before = record client { call = Some (At (Scanning table low high (ScanKey position))) } in
      key_goes shape m chains before attempt table low high position Lists (λ rows gathered e. absurd (cc))
      (λ rows gathered all e. (
        rows,
        subst (λ p. HasGathered shape m chains attempt.state table low high p rows) all gathered,
        ap (λ l. with_reads l (scanned_items table rows)) same,
        ap counted e,
      )) client.scanned _ refl ok.gathered (λ key reads e. absurd (cc))
  word_lists client (ScanRead position key at) same view ok newest =
      let before = record client { call = Some (At (Scanning table low high (ScanRead position key at))) } in
      read_goes shape m chains before attempt table low high position Lists (λ rows gathered e. absurd (cc))
      (λ rows gathered all e. (
        rows,
        subst (λ p. HasGathered shape m chains attempt.state table low high p rows) all gathered,
        ap (λ l. with_reads l (scanned_items table rows)) same,
        ap counted e,
      )) client.scanned key at _ view ok (λ value e. newest _ refl value e) (λ later e. absurd (cc))
      (λ outcome end e. absurd (cc))

-- 2. The laws

module _ (shape : Shape) (store : Store) (ghost : Ghost) (stands : Stands shape store ghost)
    (scans : ScansOk shape store ghost.chains) (nth : ℕ) (client : ClientState)
    (here : client_at store nth ≡ Some client) (attempt : Open) (table low high count : ℕ)
    (ends : EndsScan shape store client attempt table low high count) where
  abbrev as_scan : ClientState
  as_scan = record client { call = Some (At (Scanning table low high ends.at)); txn = Some attempt }

  is_scan : client ≡ as_scan
  is_scan = λ i. record client { call = ends.runs i; txn = ends.opened i }

  of_table : IsTableOf shape table
  of_table =
      (subst (λ (c : ClientState). NowFits shape c.txn c.call) is_scan (stands.base.clients nth client here).fits.2).1

  rows_listed : Lists shape store ghost.chains attempt table low high count client.log
      (client_then shape store client)
  rows_listed =
      subst (λ (c : ClientState). ViewOk shape (memory shape store.words) (key_view c.call)
      → ScanClientOk shape (memory shape store.words) ghost.chains c.call c.txn c.scanned
      → ReadsNewest shape (memory shape store.words) ghost.chains (memory shape store.words)
      (found_word shape store c) (reader_of shape c)
      → Lists shape store ghost.chains attempt table low high count client.log (client_then shape store c))
      (sym is_scan)
      (word_lists shape store ghost.chains attempt table low high count client.log client ends.at refl)
      (stands.keys.clients nth client here).at (scans nth client here) (stands.reads nth client here)

  complete : (items : List Item) × ((client_then shape store client).log ≡ with_reads client.log items)
      × (length items ≡ count) × ListsRange shape store ghost.chains attempt.state table low high items
  complete =
      let o = rows_listed ends.answers in (
        scanned_items table o.0,
        o.2,
        o.3,
        range_listed shape store ghost.chains attempt.state table of_table stands.keys.paths low high o.0 o.1,
      )

  items : (rows : Rows) → ((key : ℕ) → IsBetween low high key
      → FindsKey shape store ghost.chains attempt.state table key (rows (key_at table key)))
      → (client_then shape store client).log ≡ with_reads client.log (items_between rows table low high)
  items rows found =
      complete.1
      ∙ ap (with_reads client.log)
      (range_items shape store ghost.chains attempt.state table of_table stands.keys.paths low high complete.0
      complete.3 rows found)

pub complete_law : CompleteLaw
complete_law shape store ghost stands scans nth client here attempt table low high count ends =
    complete shape store ghost stands scans nth client here attempt table low high count ends

pub items_law : ItemsLaw
items_law shape store ghost stands scans nth client here attempt table low high count ends =
    items shape store ghost stands scans nth client here attempt table low high count ends
