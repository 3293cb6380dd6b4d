-- What is right: whoever wants to believe the contracts reads these. Step says which lists of events are accepted,
-- and gives the reply to an event after a list. What each kind of event does is in the file of its name.

-- the log of what happened, and whose packets are heard
pub mod Log
pub mod Groups
-- the rounds of probing and the relays, read off the log
pub mod Probing
pub mod Window
pub mod Relaying
-- the score and the timers that are set, read off the log; and when members that are gone are forgotten
pub mod Forget
pub mod Timing
-- what is added to a log, and what is sent
pub mod Apply
pub mod Room
pub mod Send
-- the kinds of event: Hear has Heard, Ask has Ask and Health, Joining has Pull, and Leave has Leave
pub mod Open
pub mod Hear
pub mod Tick
pub mod Ask
pub mod Joining
pub mod Leave
-- all of them
pub mod Step
-- whom rounds chose, by the replies and by the list of events
pub mod Choice
-- worked events: Examples has the literals that the others use
pub mod Examples
pub mod ProbingExamples
pub mod RelayingExamples
pub mod NumberExamples
pub mod JoiningExamples
pub mod VersionExamples
pub mod VersionThreeExamples
pub mod GroupExamples
pub mod MergeExamples
pub mod LeaveExamples
pub mod ForgetExamples
pub mod ChoiceExamples
