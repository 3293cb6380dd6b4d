-- What the toolchain's library reads of a text is the address that the text spells.
use Rattle.std.proofs.Common.{◌≡◌, ℕ, List, [], ◌∷◌, length, Some, None, option_map, refl, ap, sym, subst, append-nil, ne_eqb, arith, ◌∙◌}
use Rattle.std.specs.declared.net.ipv6_addr.Ipv6Addr.{Ipv6Addr}
use Rattle.std.specs.Net.Addr.{ipv6_octets, ipv6_segments, octets_of as bytes_of}
use Rattle.std.specs.Net.Grammar.{IsColonHex, IsIpv6Text}
use Rattle.std.specs.Net.Reader.{Read, read_ipv6, whole_value}
use Rattle.std.proofs.NetLemmas.Ipv6.{EndsGroups-nil, read_ipv6_complete, read_ipv6_sound}
use Rattle.lg_text.specs.Meaning.IpReading.{ipv6_of}

pub spelled-read : (text : List ℕ) (ip : Ipv6Addr) → IsIpv6Text text ip → Some (ipv6_octets ip) ≡ ipv6_of text
unfolding ipv6_of
spelled-read text ip spelled =
    let read : read_ipv6 text ≡ Some (ipv6_segments ip, []) = subst (λ t. read_ipv6 t ≡ Some (ipv6_segments ip, [])) (append-nil text) (read_ipv6_complete text (ipv6_segments ip) [] spelled EndsGroups-nil) in
    rw read refl

-- what is read whole is spelled
whole-spelled : (text segments : List ℕ) → read_ipv6 text ≡ Some (segments, []) → IsColonHex text segments
whole-spelled text segments is =
    let (front, split, spelled) = read_ipv6_sound text segments [] is in
    subst (λ t. IsColonHex t segments) (sym (split ∙ append-nil front)) spelled

none-whole : (text segments rest : List ℕ) → ((ip : Ipv6Addr) → ¬ (IsIpv6Text text ip)) → read_ipv6 text ≡ Some (segments, rest) → None ≡ whole_value (read_ipv6 text)
none-whole text segments [] unspelled is = absurd (unspelled (record { segments = segments }) (whole-spelled text segments is))
none-whole text segments (c ∷ rest) unspelled is = rw (is, ne_eqb (length (c ∷ rest)) 0 (omega arith)) refl

pub unspelled-unread : (text : List ℕ) → ((ip : Ipv6Addr) → ¬ (IsIpv6Text text ip)) → None ≡ ipv6_of text
unfolding ipv6_of
unspelled-unread text unspelled = ap (option_map bytes_of) (go (read_ipv6 text) refl)
  where
    go : (found : Read (List ℕ)) → read_ipv6 text ≡ found → None ≡ whole_value (read_ipv6 text)
    go None is = rw is refl
    go (Some found) is = none-whole text found.0 found.1 unspelled is
