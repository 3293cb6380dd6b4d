-- Worked rows.
use Rattle.std.specs.Prelude.{◌≡◌, [], ◌∷◌, ◌++◌, Some, None, codes, refl}
use Rattle.std.specs.declared.io.ErrorKind.TheVariants.{IsADirectory, StorageFull, TimedOut}
use Rattle.lg_text.specs.Meaning.Cutting.{before, behind, colon}
use Rattle.lg_text.specs.Meaning.Faults.{run_fault_text}
use Rattle.lg_text.specs.Meaning.Lines.{lines_of}
use Rattle.lg_text.specs.Meaning.Names.{member_name_of}
use Rattle.lg_text.specs.Meaning.Numbers.{number_of, number_within, port_of}
use Rattle.lg_text.specs.Meaning.Octets.{octets_of}
use Rattle.lg_text.specs.declared.fault.InputFault.TheVariants.{Failed, TooLong}
use Rattle.lg_text.specs.declared.fault.RunFault.TheVariants.{Read, Write}

two-lines : lines_of (codes "ab" ++ 10 ∷ 10 ∷ codes "c") ≡ codes "ab" ∷ [] ∷ codes "c" ∷ []
two-lines = refl

ended-line : lines_of (97 ∷ 10 ∷ []) ≡ (97 ∷ []) ∷ []
ended-line = refl

no-line : lines_of [] ≡ []
no-line = refl

before-first-colon : before colon (codes "a:b:c") ≡ codes "a"
unfolding before
before-first-colon = refl

behind-first-colon : behind colon (codes "a:b:c") ≡ Some (codes "b:c")
unfolding behind
behind-first-colon = refl

behind-last-colon : behind colon (codes "a:") ≡ Some []
unfolding behind
behind-last-colon = refl

before-no-colon : before colon (codes "a") ≡ codes "a"
unfolding before
before-no-colon = refl

behind-no-colon : behind colon (codes "a") ≡ None
unfolding behind
behind-no-colon = refl

zeros-first : number_of (codes "0042") ≡ Some 42
zeros-first = refl

most-digits : number_of (codes "9999999999999999") ≡ Some 9999999999999999
most-digits = refl

-- leading zeros count as digits
seventeen-digits : number_of (codes "00000000000000001") ≡ None
seventeen-digits = refl

signed : number_of (codes "+1") ≡ None
signed = refl

no-digit : number_of [] ≡ None
no-digit = refl

within : number_within 5 7 (codes "7") ≡ Some 7
within = refl

beyond : number_within 5 7 (codes "8") ≡ None
beyond = refl

greatest-port : port_of (codes "65535") ≡ Some 65535
greatest-port = refl

no-port : port_of (codes "0") ≡ None
no-port = refl

past-ports : port_of (codes "65536") ≡ None
past-ports = refl

a-name : member_name_of (codes "b-2") ≡ Some (codes "b-2")
a-name = refl

no-name : member_name_of [] ≡ None
no-name = refl

blank-in-name : member_name_of (codes "b 2") ≡ None
blank-in-name = refl

long-input : run_fault_text (Read TooLong) ≡ codes "lg: read\nstandard input has more than 1048576 bytes\n"
long-input = refl

folder-as-input : run_fault_text (Read (Failed IsADirectory))
    ≡ codes "lg: read\nstandard input can't be read: it is a folder\n"
folder-as-input = refl

full-disk : run_fault_text (Write (record { kind = StorageFull }))
    ≡ codes "lg: write\nstandard output can't be written: no space is left\n"
full-disk = refl

foreign-fault : run_fault_text (Write (record { kind = TimedOut }))
    ≡ codes "lg: write\nstandard output can't be written: the machine refuses it\n"
foreign-fault = refl

an-address : octets_of (codes "10.0.0.255") ≡ Some (10 ∷ 0 ∷ 0 ∷ 255 ∷ [])
unfolding octets_of before behind
an-address = refl

octal-address : octets_of (codes "010.0.0.1") ≡ None
unfolding octets_of before behind
octal-address = refl

long-address : octets_of (codes "1.2.3.4.5") ≡ None
unfolding octets_of before behind
long-address = refl

three-numbers : octets_of (codes "1.2.3") ≡ None
unfolding octets_of before behind
three-numbers = refl

great-number : octets_of (codes "1.2.3.256") ≡ None
unfolding octets_of before behind
great-number = refl
