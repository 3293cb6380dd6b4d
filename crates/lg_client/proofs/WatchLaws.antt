-- Answers with changes that are told one after another.
use Rattle.std.proofs.Common.{◌≡◌, ℕ, Bool, true, false, List, [], ◌∷◌, Option, Some, inl, inr, refl, sym, ap, subst}
use Rattle.std.proofs.KnownBytes.{Appends-nil, Appends-trans}
use Rattle.std.specs.Io.KnownBytes.{Appends}
use Rattle.lg_text.specs.Meaning.Reporting.{Reported, Reports}
use Rattle.lg_text.specs.Meaning.Running.{AppendsFront}
use Rattle.lg_text.specs.declared.fault.WriteFault.{WriteFault}
use Rattle.lg_client.specs.declared.fault.AskFault.{AskFault}
use Rattle.lg_client.specs.declared.fault.AskFault.TheVariants.{Address, Write}
use Rattle.lg_client.specs.Meaning.Addresses.{HasNodeAddress}
use Rattle.lg_client.specs.Meaning.Answers.{IsAnswerBody}
use Rattle.lg_client.specs.Meaning.Faults.{ask_fault_status, ask_fault_text}
use Rattle.lg_client.specs.Meaning.Questions.{changes_codes}
use Rattle.lg_client.specs.Meaning.Told.{NewsText, changes_told}
use Rattle.lg_client.specs.Meaning.Telling.{IsWhyUntold}
use Rattle.lg_client.specs.Meaning.Watching.{EndsNews, WatchesChanges, is_none_yet, next_version, watched_with}
use Rattle.lg_client.specs.Support.Asking.{IsWatching, IsWhyUnheard}
use Rattle.lg_client.proofs.AskLaws.{untold_at}

-- no answer yet
pub watching_begins : {W : Type 0} (json : Bool) (before : W) (held : Option (List ℕ)) (reported : Reported) → IsWatching json before before held held reported reported 0 true
watching_begins json before held reported = record {
  bodies = [];
  watched = record { text = []; version = 0 };
  watches = record { answered = tt; told = refl; written = Appends-nil held; silent = refl };
  begins = λ _. refl;
  version_is = refl;
  first_is = refl;
}

-- one answer more
pub watching_more : {W : Type 0} (json : Bool) (before between after : W) (held has holds : Option (List ℕ)) (reported told : Reported) (version : ℕ) (is_first : Bool)
    → IsWatching json before between held has reported told version is_first → (body : List ℕ) → IsAnswerBody changes_codes body → (news : NewsText)
    → changes_told json is_first body ≡ Some news → Appends has holds news.text
    → IsWatching json before after held holds reported told (next_version version news.version) false
watching_more json before between after held has holds reported told version is_first w body answered news is written =
    let tells : changes_told json (is_none_yet w.bodies) body ≡ Some news =
    subst (λ (first : Bool). changes_told json first body ≡ Some news) w.first_is is in record {
      bodies = body ∷ w.bodies;
      watched = watched_with w.watched news;
      watches = record {
        answered = (answered, w.watches.answered);
        told = rw (w.watches.told, tells) refl;
        written = Appends-trans held has holds w.watched.text news.text w.watches.written written;
        silent = w.watches.silent;
      };
      begins = λ e. absurd cc;
      version_is = ap (λ (v : ℕ). next_version v news.version) w.version_is;
      first_is = refl;
    }

-- the end
ended : {W : Type 0} (at : List ℕ) (json : Bool) (before between after : W) (held has holds : Option (List ℕ)) (reported told reports : Reported) (version : ℕ) (is_first : Bool) (status : ℕ)
    → HasNodeAddress at → (w : IsWatching json before between held has reported told version is_first)
    → EndsNews at json w.bodies between after has holds told reports status → WatchesChanges at json before after held holds reported reports status
ended at json before between after held has holds reported told reports version is_first status address w ends = record {
  bodies = w.bodies;
  watched = w.watched;
  between = between;
  has = has;
  told = told;
  watches = w.watches;
  begins = w.begins;
  ends = ends;
  unasked = λ none. absurd (none address);
}

-- the next answer isn't told
pub ends_untold : {W : Type 0} (at : List ℕ) (json : Bool) (before between : W) (held has : Option (List ℕ)) (reported told reports : Reported) (version : ℕ) (is_first : Bool) (fault : AskFault) (status : ℕ)
    → HasNodeAddress at → IsWatching json before between held has reported told version is_first → IsWhyUnheard changes_codes (changes_told json is_first) fault
    → Reports told reports (ask_fault_text fault) → status ≡ ask_fault_status fault → WatchesChanges at json before between held has reported reports status
ends_untold at json before between held has reported told reports version is_first fault status address w why line is =
    ended at json before between between held has has reported told reports version is_first status address w (inl record {
      fault = fault;
      why = untold_at at changes_codes (changes_told json (is_none_yet w.bodies)) fault address
          (subst (λ (first : Bool). IsWhyUnheard changes_codes (changes_told json first) fault) w.first_is why);
      unwritten = refl;
      line = line;
      is = is;
    })

-- its text isn't written whole
pub ends_broken : {W : Type 0} (at : List ℕ) (json : Bool) (before between after : W) (held has holds : Option (List ℕ)) (reported told reports : Reported) (version : ℕ) (is_first : Bool) (status : ℕ)
    → HasNodeAddress at → IsWatching json before between held has reported told version is_first → (body : List ℕ) → IsAnswerBody changes_codes body → (news : NewsText)
    → changes_told json is_first body ≡ Some news → AppendsFront has holds news.text → (fault : WriteFault) → Reports told reports (ask_fault_text (Write fault)) → status ≡ ask_fault_status (Write fault)
    → WatchesChanges at json before after held holds reported reports status
ends_broken at json before between after held has holds reported told reports version is_first status address w body answered news tells partly fault line is =
    ended at json before between after held has holds reported told reports version is_first status address w (inr record {
      body = body;
      answered = answered;
      news = news;
      told = subst (λ (first : Bool). changes_told json first body ≡ Some news) w.first_is tells;
      ends = record { partly = partly; fault = fault; line = line; is = is };
    })

-- nobody is asked
pub ends_unasked : {W : Type 0} (at : List ℕ) (json : Bool) (before : W) (held : Option (List ℕ)) (reported reports : Reported) (fault : AskFault) (status : ℕ) → fault ≡ Address → ¬ (HasNodeAddress at)
    → Reports reported reports (ask_fault_text fault) → status ≡ ask_fault_status fault → WatchesChanges at json before before held held reported reports status
ends_unasked at json before held reported reports fault status is none line ends = record {
  bodies = [];
  watched = record { text = []; version = 0 };
  between = before;
  has = held;
  told = reported;
  watches = record { answered = tt; told = refl; written = Appends-nil held; silent = refl };
  begins = λ _. refl;
  ends = inl record {
    fault = fault;
    why = subst (λ (f : AskFault). IsWhyUntold at changes_codes (changes_told json true) f) (sym is) none;
    unwritten = refl;
    line = line;
    is = ends;
  };
  unasked = λ _. refl;
}
