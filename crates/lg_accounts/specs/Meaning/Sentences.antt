-- What an entry tells of a member, in sentences. 'We' is the node whose recording it is, and 'it' the member.
use Rattle.std.specs.Prelude.{ℕ, nat_lt, Bool, true, false, List, [], ◌∷◌, ◌++◌, codes, decimal, if◌then◌else◌}
use Rattle.std.specs.Prelude.{Option, Some, None}
use Rattle.std.specs.List.{flat_map}
use Rattle.lg_rules.specs.declared.addr.Addr.{Addr}
use Rattle.lg_rules.specs.declared.claim.Claim.{Claim}
use Rattle.lg_rules.specs.declared.claim.Status.{Status}
use Rattle.lg_rules.specs.declared.claim.Status.TheVariants.{Alive, Suspect, Failed, Left}
use Rattle.lg_text.specs.Meaning.Addresses.{addr_text}
use Rattle.lg_lines.specs.Meaning.Records.{blank}
use Rattle.lg_accounts.specs.declared.step.Helper.{Helper}
use Rattle.lg_accounts.specs.declared.step.NoteStep.{NoteStep}
use Rattle.lg_accounts.specs.declared.step.NoteStep.TheVariants.{Pinged, Unanswered, Nacked, Acked, RoundEnded, Scored}
use Rattle.lg_accounts.specs.declared.step.NoteStep.TheVariants.{Told, TimeOver, Changed, Suspected, Minute}

-- We pinged it (probe K, at ADDR).
unfoldable pub pinged_text : ℕ → Addr → List ℕ
pinged_text probe addr =
    codes "We pinged it (probe " ++ (decimal probe ++ codes ", at ") ++ addr_text addr ++ codes ")."

-- a helper by its name, or else by its address
abbrev pub named_or_placed : Option (List ℕ) → Addr → List ℕ
named_or_placed None addr = addr_text addr
named_or_placed (Some name) addr = name

abbrev pub helper_text : Helper → List ℕ
helper_text helper = named_or_placed helper.name helper.addr

-- the helpers behind the first: `and` stands before the last, and a comma before each other
abbrev pub other_helpers : List Helper → List ℕ
other_helpers [] = []
other_helpers (helper ∷ []) = codes " and " ++ helper_text helper
other_helpers (helper ∷ next ∷ more) = codes ", " ++ helper_text helper ++ other_helpers (next ∷ more)

-- We asked A, B and C to ping it; or that there was nobody to ask.
unfoldable pub asked_text : List Helper → List ℕ
asked_text [] = codes "There was nobody to ask."
asked_text (helper ∷ others) =
    codes "We asked " ++ helper_text helper ++ other_helpers others ++ codes " to ping it."

-- No Ack came within D ms, and who was asked then.
unfoldable pub unanswered_text : ℕ → List Helper → List ℕ
unanswered_text within helpers =
    codes "No Ack came within " ++ (decimal within ++ codes " ms. ") ++ asked_text helpers

-- N sent a Nack: no Ack of it had come.
unfoldable pub nacked_text : List ℕ → List ℕ
nacked_text by = by ++ codes " sent a Nack: no Ack of it had come."

-- N sent an Ack.
unfoldable pub acked_text : List ℕ → List ℕ
acked_text by = by ++ codes " sent an Ack."

-- The round ended without an Ack; or that it ended.
abbrev pub ended_text : Bool → List ℕ
ended_text true = codes "The round ended without an Ack."
ended_text false = codes "The round ended."

-- Our health score rose, or fell, from X to Y.
abbrev pub rose_or_fell : ℕ → ℕ → List ℕ
rose_or_fell before after = if nat_lt after before then codes "fell" else codes "rose"

unfoldable pub scored_text : ℕ → ℕ → List ℕ
scored_text before after =
    codes "Our health score " ++ (rose_or_fell before after ++ (codes " from "
    ++ (decimal before ++ (codes " to " ++ (decimal after ++ codes ".")))))

-- The sender of a packet that told something. A claim is heard in a packet alone, so there is one.
abbrev pub teller_text : Option (List ℕ) → List ℕ
teller_text None = codes "Somebody"
teller_text (Some name) = name

-- N told us that it is alive at incarnation I, at ADDR.
unfoldable pub told_alive : List ℕ → ℕ → Addr → List ℕ
told_alive teller incarnation addr =
    teller ++ (codes " told us that it is alive at incarnation " ++ (decimal incarnation ++ codes ", at "))
    ++ addr_text addr ++ codes "."

-- N told us that A suspects it at incarnation I.
unfoldable pub told_suspect : List ℕ → List ℕ → ℕ → List ℕ
told_suspect teller accuser incarnation =
    teller ++ (codes " told us that " ++ (accuser
    ++ (codes " suspects it at incarnation " ++ (decimal incarnation ++ codes "."))))

-- N told us that it failed, or that it left, at incarnation I.
unfoldable pub told_gone : List ℕ → List ℕ → ℕ → List ℕ
told_gone teller fate incarnation =
    teller ++ (codes " told us that it " ++ (fate ++ (codes " at incarnation " ++ (decimal incarnation ++ codes "."))))

abbrev pub claim_by_status : List ℕ → Status → ℕ → Addr → List ℕ
claim_by_status teller Alive incarnation addr = told_alive teller incarnation addr
claim_by_status teller (Suspect accuser) incarnation addr = told_suspect teller accuser incarnation
claim_by_status teller Failed incarnation addr = told_gone teller (codes "failed") incarnation
claim_by_status teller Left incarnation addr = told_gone teller (codes "left") incarnation

-- what a claim says of it, and who told it
abbrev pub claim_text : Option (List ℕ) → Claim → List ℕ
claim_text teller c = claim_by_status (teller_text teller) c.status c.incarnation c.addr

-- words, an incarnation and a full stop
unfoldable pub at_incarnation : List ℕ → ℕ → List ℕ
at_incarnation words incarnation = words ++ (codes " at incarnation " ++ (decimal incarnation ++ codes "."))

-- We suspected it, or took it as alive, at incarnation I; or we took it as failed, or as left.
abbrev pub changed_text : Status → ℕ → List ℕ
changed_text Alive incarnation = at_incarnation (codes "We took it as alive") incarnation
changed_text (Suspect accuser) incarnation = at_incarnation (codes "We suspected it") incarnation
changed_text Failed incarnation = codes "We took it as failed."
changed_text Left incarnation = codes "We took it as left."

-- We knew L live members. After C of K confirmations the timeout was T ms.
unfoldable pub live_text : ℕ → List ℕ
live_text live = codes "We knew " ++ (decimal live ++ codes " live members. ")

unfoldable pub timeout_text : ℕ → ℕ → ℕ → List ℕ
timeout_text confirmations most timeout =
    codes "After " ++ (decimal confirmations ++ (codes " of " ++ (decimal most
    ++ (codes " confirmations the timeout was " ++ (decimal timeout ++ codes " ms.")))))

-- In the minute before, E of our rounds ended, F of them with a suspicion, and our clock stood still for D ms.
unfoldable pub rounds_text : ℕ → ℕ → List ℕ
rounds_text ended suspected =
    codes "In the minute before, " ++ (decimal ended ++ (codes " of our rounds ended, "
    ++ (decimal suspected ++ codes " of them with a suspicion, ")))

unfoldable pub stood_text : ℕ → List ℕ
stood_text stood = codes "and our clock stood still for " ++ (decimal stood ++ codes " ms.")

-- The sentences of a step of an entry: one, or two with a blank between them. The first argument is the sender of the
-- packet that was heard, if the entry is one that heard one.
abbrev pub sentence_text : Option (List ℕ) → NoteStep → List ℕ
sentence_text teller (Pinged probe addr) = pinged_text probe addr
sentence_text teller (Unanswered within helpers) = unanswered_text within helpers.items
sentence_text teller (Nacked by) = nacked_text by
sentence_text teller (Acked by) = acked_text by
sentence_text teller (RoundEnded is_failed) = ended_text is_failed
sentence_text teller (Scored before after) = scored_text before after
sentence_text teller (Told c) = claim_text teller c
sentence_text teller TimeOver = codes "The time was over, and no refutation had come."
sentence_text teller (Changed c) = changed_text c.status c.incarnation
sentence_text teller (Suspected live confirmations most timeout) =
    live_text live ++ timeout_text confirmations most timeout
sentence_text teller (Minute ended suspected stood) = rounds_text ended suspected ++ stood_text stood

-- the sentences of some steps, with a blank between them
abbrev pub sentence_behind : Option (List ℕ) → NoteStep → List ℕ
sentence_behind teller step = blank ++ sentence_text teller step

abbrev pub sentences_text : Option (List ℕ) → List NoteStep → List ℕ
sentences_text teller [] = []
sentences_text teller (step ∷ more) = sentence_text teller step ++ flat_map (sentence_behind teller) more
