pub mod Rounds
pub mod Shown
mod WordsExample
mod SerialExample
mod CommitsExample
mod OldVersionsExample
mod GuardsExample
mod ScansExample
mod FusesExample
mod RareExample
mod PolicyExample
mod ClientExample
mod BoundsExample
mod HeldExample
mod AnswersExample
mod WorldExample
mod MedicExample
mod FitsExample
pub mod KeyLemmas
pub mod FallsKeys
pub mod FallsCommit
pub mod FallsTxn
pub mod FallsBegins
pub mod FallsScan
pub mod FallsClient
pub mod GivesCommit
pub mod FieldLemmas
pub mod BlankLemmas
pub mod OpeningLemmas
pub mod StepLemmas
pub mod FallsAttempt
pub mod Grows
pub mod GrowsSession
pub mod RunsTxn
pub mod RunsClient
pub mod JobKeys
pub mod FewLemmas
pub mod EndsDriver
pub mod StaysLemmas
pub mod EndsSession
pub mod EndsSettled
pub mod EndsWorld
pub mod RoomDriver
pub mod EventsClient
pub mod OpensDriver
pub mod EventsSession
pub mod GoesParts
pub mod GoesTxn
pub mod GoesCommit
pub mod GoesClient
pub mod GoesView
pub mod ProgramsCommit
pub mod CallWrites
pub mod HoldsTxn
pub mod HoldsClient
pub mod HoldsVerbs
pub mod HoldsSession
pub mod HoldsOpening
pub mod PlainLemmas
pub mod ReaderLemmas
pub mod SortsLemmas
pub mod SteppedLemmas
pub mod OwnLemmas
pub mod StageLemmas
pub mod OpenLemmas
pub mod UnreadLemmas
pub mod RecordLemmas
pub mod AnswersOps
pub mod AnswersCommit
pub mod AnswersScan
pub mod AnswersClient
pub mod GoesSession
pub mod KeptSession
pub mod AskedDriver
pub mod AskedSession
pub mod ListsClient
pub mod ListsSession
