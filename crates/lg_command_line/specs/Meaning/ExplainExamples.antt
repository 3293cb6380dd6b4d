-- Worked command lines of `explain`.
use Rattle.std.specs.Prelude.{◌≡◌, [], ◌∷◌, None, Some, codes, false, refl, true}
use Rattle.clap.proofs.OnLiterals.{clap_on_literals}
use Rattle.clap.specs.declared.error.kind.ErrorKind.TheVariants as kind
use Rattle.lg_command_line.specs.Meaning.Commands.{asked, explain, line_faults}

-- without options the latest account is told, in lines
latest-account :
    asked (codes "lg" ∷ codes "explain" ∷ codes "c" ∷ codes "--record" ∷ codes "/var/lib/lg" ∷ [])
    ≡ explain record {
      name = codes "c";
      folder = codes "/var/lib/lg";
      at = 1000000000000000;
      all = false;
      entries = false;
      json = false;
      html = None;
    }
unfolding asked clap_on_literals
latest-account = refl

latest-account-taken :
    line_faults (codes "lg" ∷ codes "explain" ∷ codes "c" ∷ codes "--record" ∷ codes "/var/lib/lg" ∷ []) ≡ []
unfolding line_faults asked clap_on_literals
latest-account-taken = refl

all-accounts :
    asked (codes "lg" ∷ codes "explain" ∷ codes "--record=a" ∷ codes "--all" ∷ codes "--at=70" ∷ codes "c"
    ∷ codes "--entries" ∷ codes "--json" ∷ [])
    ≡ explain record {
      name = codes "c";
      folder = codes "a";
      at = 70;
      all = true;
      entries = true;
      json = true;
      html = None;
    }
unfolding asked clap_on_literals
all-accounts = refl

as-a-page :
    asked (codes "lg" ∷ codes "explain" ∷ codes "c" ∷ codes "--record=a" ∷ codes "--html=c.html" ∷ [])
    ≡ explain record {
      name = codes "c";
      folder = codes "a";
      at = 1000000000000000;
      all = false;
      entries = false;
      json = false;
      html = Some (codes "c.html");
    }
unfolding asked clap_on_literals
as-a-page = refl

-- the file is made, or isn't, after the command line is taken
any-page : line_faults (codes "lg" ∷ codes "explain" ∷ codes "c" ∷ codes "--record=a" ∷ codes "--html=" ∷ []) ≡ []
unfolding line_faults asked clap_on_literals
any-page = refl

page-without-file :
    line_faults (codes "lg" ∷ codes "explain" ∷ codes "c" ∷ codes "--record=a" ∷ codes "--html" ∷ [])
    ≡ kind.InvalidValue ∷ []
unfolding line_faults asked clap_on_literals
page-without-file = refl

two-pages :
    line_faults (codes "lg" ∷ codes "explain" ∷ codes "c" ∷ codes "--record=a" ∷ codes "--html=b" ∷ codes "--html=b"
    ∷ [])
    ≡ kind.ArgumentConflict ∷ []
unfolding line_faults asked clap_on_literals
two-pages = refl

at-no-moment :
    line_faults (codes "lg" ∷ codes "explain" ∷ codes "c" ∷ codes "--record=a" ∷ codes "--at=1000000000000001" ∷ [])
    ≡ kind.ValueValidation ∷ []
unfolding line_faults asked clap_on_literals
at-no-moment = refl

no-recording : line_faults (codes "lg" ∷ codes "explain" ∷ codes "c" ∷ []) ≡ kind.MissingRequiredArgument ∷ []
unfolding line_faults asked clap_on_literals
no-recording = refl

no-member : line_faults (codes "lg" ∷ codes "explain" ∷ codes "--record=a" ∷ []) ≡ kind.MissingRequiredArgument ∷ []
unfolding line_faults asked clap_on_literals
no-member = refl

two-members : line_faults (codes "lg" ∷ codes "explain" ∷ codes "b" ∷ codes "c" ∷ codes "--record=a" ∷ [])
    ≡ kind.UnknownArgument ∷ []
unfolding line_faults asked clap_on_literals
two-members = refl

-- the member and the folder are judged after the command line is taken
any-member : line_faults (codes "lg" ∷ codes "explain" ∷ codes "a/b" ∷ codes "--record=" ∷ []) ≡ []
unfolding line_faults asked clap_on_literals
any-member = refl

all-twice :
    line_faults (codes "lg" ∷ codes "explain" ∷ codes "c" ∷ codes "--record=a" ∷ codes "--all" ∷ codes "--all" ∷ [])
    ≡ kind.ArgumentConflict ∷ []
unfolding line_faults asked clap_on_literals
all-twice = refl
