-- Each verb is at a field of the position, whatever words are found.
use Rattle.nam_verbs.specs.VerbAt.{target}
use Rattle.nam_verbs.specs.Falls.{Any}
use Rattle.nam_verbs.proofs.TakenLemmas.{holds_always}
use Rattle.nam_layout.specs.Known.{IsOfPlace}
use Rattle.nam_calls.specs.Ring.{slot_verb, copy_verb, ring_verb}
use Rattle.nam_calls.specs.Fits.{SlotEnds, CopyFits, RingFits, SearchEnds}
use Rattle.nam_calls.proofs.FallsMachines.{slot_falls, copy_falls, ring_falls}
use Rattle.nam_calls.proofs.FieldLemmas.{slot_field, copy_field, ring_field}
use Rattle.nam_ring.specs.Check as check
use Rattle.nam_ring.specs.Copy as copy
use Rattle.nam_ring.specs.Search as search
use Rattle.nam_ring.specs.CheckLaw.{CheckFieldLaw}
use Rattle.nam_ring.specs.CopyLaw.{CopyFieldLaw}
use Rattle.nam_ring.specs.SearchLaw.{SearchFieldLaw}

pub check_fields : CheckFieldLaw
check_fields place fits =
    holds_always Any (SlotEnds place) (check.running (check.checking place))
    (λ at here found. slot_falls place fits at found)
    (λ at. IsOfPlace place (target (slot_verb place at))) tt (λ at here. slot_field place fits at)

pub copy_fields : CopyFieldLaw
copy_fields place fits count header old ending =
    holds_always (CopyFits place) Any (copy.running (copy.copying place count header old ending))
    (λ at here found. copy_falls place fits at here)
    (λ at. IsOfPlace place (target (copy_verb place count header old ending at))) tt
    (copy_field place fits count header old ending)

pub search_fields : SearchFieldLaw
search_fields place fits seen =
    holds_always (RingFits place) (SearchEnds place) (search.running (search.searching place seen))
    (λ at here found. ring_falls place fits seen at found here)
    (λ at. IsOfPlace place (target (ring_verb place at))) fits.least_ring (ring_field place fits)
