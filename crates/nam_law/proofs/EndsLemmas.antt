-- What the ends of scans and of refused commits tell, from the law of words.
use Rattle.nam_law.proofs.LawLemmas.{for_scans}
use Rattle.nam_law.specs.EndsLaw.{LockedLaw, NewerLaw, ScanLaw}
use Rattle.nam_refused.proofs.AnswerLemmas.{newer_holds}
use Rattle.nam_refused.proofs.LockedLemmas.{locked_holds}
use Rattle.nam_scans.proofs.ScannedLemmas.{complete_law}

pub scan_lists : ScanLaw
scan_lists shape store ghost ok nth client here attempt table low high count ends =
    complete_law shape store ghost (for_scans shape store ghost ok) ok.scans nth client here attempt table low high
    count ends

pub newer_tells : NewerLaw
newer_tells shape store ghost ok nth client attempt lock ends =
    newer_holds shape store ghost.chains ok.words.ground.base ok.words.ground.locks ok.refused nth client attempt lock
    ends

pub locked_tells : LockedLaw
locked_tells shape store ghost ok nth client attempt meets =
    locked_holds shape store ghost.chains ok.words.ground.base ok.words.ground.locks ok.words.ground.keys nth client
    attempt meets
