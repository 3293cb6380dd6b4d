-- Worked lines of files that couldn't be written.
use Rattle.std.specs.Prelude.{◌≡◌, codes, refl}
use Rattle.std.specs.declared.io.ErrorKind.TheVariants as error
use Rattle.lg_explain_run.specs.Meaning.Words.{write_reason}

no_folder : write_reason (codes "a/c.html") error.NotFound
    ≡ codes "the file a/c.html can't be written: its folder isn't there\n"
no_folder = refl

no_space : write_reason (codes "/dev/full") error.StorageFull
    ≡ codes "the file /dev/full can't be written: no space is left\n"
no_space = refl

any_other_error : write_reason (codes "c.html") error.Other
    ≡ codes "the file c.html can't be written: the machine refuses it\n"
any_other_error = refl
