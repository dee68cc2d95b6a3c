-- The law of words: at the opening, by each step, and so of each store that comes about.
use Rattle.nam_catalog.specs.declared.shape.Shape.{Shape}
use Rattle.nam_ghost.proofs.LawLemmas.{outer_law}
use Rattle.nam_ghost.specs.Ghost.{Ghost, ghost_step, opening_ghost}
use Rattle.nam_ghost.specs.Law.{GhostLaw, WordsOkLaw}
use Rattle.nam_keys.proofs.StoreLemmas.{next_law}
use Rattle.nam_law.proofs.GroundLemmas.{cells_go, entries_rise, for_reads, ground_keep, ground_opens, keys_later}
use Rattle.nam_law.proofs.GroundLemmas.{rows_go}
use Rattle.nam_law.specs.WordsLaw.{KeepsLaw, LawOk, OpensLaw, ReachedLaw}
use Rattle.nam_origins.proofs.ListsStore.{lists_keep, lists_open, logs_keep, logs_open}
use Rattle.nam_reads.proofs.FoundLemmas.{newest_got}
use Rattle.nam_reads.proofs.OpeningLemmas.{reads_open}
use Rattle.nam_reads.proofs.StoreLemmas.{reads_keep}
use Rattle.nam_refused.proofs.StoreLemmas.{refused_keeps, refused_opens}
use Rattle.nam_scans.proofs.StoreLemmas.{scans_keep, scans_open}
use Rattle.nam_store.proofs.ReachedLemmas.{reached_keeps}
use Rattle.nam_store.specs.Store.{StepsTo, Store}
use Rattle.nam_scans.specs.ScansLaw as scans

-- what a scan takes of a store: where its read ends with a value, that is the newest version's
pub for_scans : (shape : Shape) (store : Store) (ghost : Ghost) → LawOk shape store ghost
    → scans.Stands shape store ghost
for_scans shape store ghost ok = record {
  base = ok.words.ground.base;
  keys = ok.words.ground.keys;
  reads = λ nth client here reader reads value is.
      (newest_got shape store ghost (for_reads shape store ghost ok.words) reader
      record { nth = nth; client = client; here = here; reads = reads } value is).0;
}

module _ (shape : Shape) (before after : Store) (goes : StepsTo shape before after) (ghost : Ghost)
    (ok : LawOk shape before ghost) where
  pub law_keep : LawOk shape after (ghost_step shape before after goes ghost)
  law_keep =
      let ground = ok.words.ground in
      let rows = rows_go shape before after goes ghost ground in
      let next = next_law shape before after goes ground.base in
      record {
        words = record {
          ground = ground_keep shape before after goes ghost ground;
          reads = reads_keep shape before after goes ghost record {
            stands = for_reads shape before ghost ok.words;
            rows = rows;
            next = cells_go shape before after goes ghost ground;
            vector = entries_rise shape before after goes ghost ground;
          };
          listed = lists_keep shape before after goes ghost ground.base ground.origins ground.keys
              next ok.logs ok.words.listed;
        };
        logs = logs_keep shape before after goes ghost ground.base ok.logs;
        scans = scans_keep shape before after goes ghost record {
          stands = for_scans shape before ghost ok;
          rows = rows;
          next = next;
          keys = keys_later shape before after goes ghost ground;
        } ok.scans;
        refused = refused_keeps shape before after goes ghost
            record { base = ground.base; locks = ground.locks; rows = rows } ok.refused;
      }

pub law_opens : OpensLaw
law_opens shape limits rows loaded = record {
  words = record {
    ground = ground_opens shape limits rows loaded;
    reads = reads_open shape limits rows loaded;
    listed = lists_open shape limits rows loaded;
  };
  logs = logs_open shape limits rows loaded;
  scans = scans_open shape limits rows loaded;
  refused = refused_opens shape limits rows loaded;
}

pub law_keeps : KeepsLaw
law_keeps = law_keep

pub law_reached : ReachedLaw
law_reached shape limits rows loaded =
    reached_keeps shape rows (opening_ghost shape rows) (ghost_step shape) (LawOk shape)
    (law_opens shape limits rows loaded) (λ before after ghost goes ok. law_keep shape before after goes ghost ok)

-- the groups of `nam_ghost`
pub words_hold : GhostLaw
words_hold shape limits rows loaded store ghost reached =
    (law_reached shape limits rows loaded store ghost reached).words

pub words_stand : WordsOkLaw
words_stand = outer_law words_hold
