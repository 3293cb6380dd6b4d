-- Worked lines of folders that weren't replayed.
use Rattle.std.specs.Prelude.{◌≡◌, codes, refl}
use Rattle.std.specs.Fmt.{digits}
use Rattle.std.specs.declared.io.ErrorKind.TheVariants as error
use Rattle.lg_replay.specs.declared.fault.FolderFault.TheVariants.{Unlisted, NoFile, Unread, TooLarge, Memory}
use Rattle.lg_replay_run.specs.Meaning.Words.{first_line, second_line}

no_folder : second_line (codes "/r/a") (Unlisted error.NotFound)
    ≡ codes "the folder /r/a can't be listed: it isn't there\n"
no_folder = refl

no_recording : second_line (codes "/r/a") NoFile ≡ codes "the folder /r/a has no file of a recording\n"
no_recording = refl

unread_file : second_line (codes "a") (Unread 7 error.PermissionDenied)
    ≡ codes "file 7 of the folder a can't be read: permission is denied\n"
unfolding digits
unread_file = refl

large_file : second_line (codes "a") (TooLarge 12) ≡ codes "file 12 of the folder a has more than 256000000 bytes\n"
unfolding digits
large_file = refl

no_memory : first_line Memory ≡ codes "lg: memory\n"
no_memory = refl
