-- Worked parts of bodies: b knows that a is suspected by c, that c has failed, and that d left.
use Rattle.std.specs.Prelude.{⊤, ◌≡◌, ℕ, true, false, List, [], ◌∷◌, ◌++◌, Some, None, codes, refl, replicate}
use Rattle.std.specs.Fmt.{digits}
use Rattle.lg_rules.specs.declared.addr.Addr.{Addr}
use Rattle.lg_rules.specs.declared.addr.Ip.TheVariants.{V4, V6}
use Rattle.lg_rules.specs.declared.claim.Claim.{Claim}
use Rattle.lg_rules.specs.declared.claim.Status.{Status}
use Rattle.lg_rules.specs.declared.claim.Status.TheVariants as status
use Rattle.lg_text.specs.Meaning.AddressExamples.{on_addresses}
use Rattle.lg_config.specs.declared.host.Place.TheVariants as place
use Rattle.lg_config.specs.declared.seeds.SeedPlace.{SeedPlace}
use Rattle.lg_answers.specs.declared.route.StatusKind.TheVariants.{Alive}
use Rattle.lg_answers.specs.Meaning.Bodies.{bind_field, error_body, health_counts, host_fields, leaving_field}
use Rattle.lg_answers.specs.Meaning.Bodies.{live_among, number_field, open_field, seed_json, status_field}
use Rattle.lg_answers.specs.Meaning.Members.{address_fields, comma_separated, member_body, member_fields, member_json}
use Rattle.lg_answers.specs.Meaning.Members.{members_asked, members_front_of, moment_front}
use Rattle.lg_answers.specs.Meaning.Metrics.{drops_sample, kind_line, members_lines, metric_head, seconds_text}
use Rattle.lg_answers.specs.Meaning.Metrics.{status_line}
use Rattle.lg_answers.specs.Meaning.Page.{live_words, member_row, name_cells, row_front, status_cells, summary_text}
use Rattle.lg_answers.specs.Meaning.Targets.{address_label, name_label, target_field, target_json}
use Rattle.lg_answers.specs.Meaning.Targets.{target_port}

-- what the rows have to unfold
unfoldable by_writing : ⊤
unfolding digits address_fields bind_field drops_sample host_fields kind_line leaving_field live_words member_body
    member_fields member_json member_row members_front_of members_lines metric_head moment_front name_cells open_field
    row_front seed_json status_cells status_field status_line summary_text
    address_label name_label target_field target_json
by_writing = tt

abbrev at : ℕ → Addr
at port = record { ip = V4 (127 ∷ 0 ∷ 0 ∷ 1 ∷ []); port = port }

abbrev claimed : List ℕ → ℕ → Status → ℕ → Claim
claimed name port status i = record { name = name; addr = at port; status = status; incarnation = i }

abbrev a : Claim
a = claimed (codes "a") 7101 (status.Suspect (codes "c")) 0

abbrev b : Claim
b = claimed (codes "b") 7102 status.Alive 0

abbrev c : Claim
c = claimed (codes "c") 7103 status.Failed 2

-- d left, and is reached over IPv6
abbrev d : Claim
d =
    record {
      name = codes "d";
      addr = record { ip = V6 (0x20 ∷ 0x01 ∷ 0x0d ∷ 0xb8 ∷ replicate 11 0 ++ 1 ∷ []); port = 7104 };
      status = status.Left;
      incarnation = 3;
    }

-- ---- members

-- a, b and c without their first brace
abbrev a_json : List ℕ
a_json =
    codes "\"name\":\"a\",\"status\":\"suspect\",\"incarnation\":0,"
    ++ codes "\"address\":\"127.0.0.1\",\"port\":7101,\"accuser\":\"c\"}"

abbrev b_json : List ℕ
b_json =
    codes "\"name\":\"b\",\"status\":\"alive\",\"incarnation\":0,"
    ++ codes "\"address\":\"127.0.0.1\",\"port\":7102,\"accuser\":null}"

abbrev c_json : List ℕ
c_json =
    codes "\"name\":\"c\",\"status\":\"failed\",\"incarnation\":2,"
    ++ codes "\"address\":\"127.0.0.1\",\"port\":7103,\"accuser\":null}"

abbrev d_json : List ℕ
d_json =
    codes "\"name\":\"d\",\"status\":\"left\",\"incarnation\":3,"
    ++ codes "\"address\":\"2001:db8::1\",\"port\":7104,\"accuser\":null}"

head : moment_front 41 5120 ++ members_front_of (codes "b")
    ≡ codes "{\"version\":41,\"moment_ms\":5120,\"name\":\"b\",\"members\":["
unfolding by_writing
head = refl

all_three : comma_separated member_json (members_asked None (a ∷ b ∷ c ∷ []))
    ≡ codes "{" ++ a_json ++ codes ",{" ++ b_json ++ codes ",{" ++ c_json
unfolding by_writing
all_three = refl

those_alive : comma_separated member_json (members_asked (Some Alive) (a ∷ b ∷ c ∷ [])) ≡ codes "{" ++ b_json
unfolding by_writing
those_alive = refl

none_alive : comma_separated member_json (members_asked (Some Alive) (a ∷ c ∷ [])) ≡ []
unfolding by_writing
none_alive = refl

only_d : member_json d ≡ codes "{" ++ d_json
unfolding by_writing on_addresses
only_d = refl

only_a : member_body 41 a ≡ codes "{\"version\":41," ++ a_json
unfolding by_writing
only_a = refl

-- ---- targets

-- b answers at the port of its status server, and d, an IPv6 address, at one that is asked for
a_target : target_json (target_port None (Some (at 8946))) b
    ≡ codes "{\"targets\":[\"127.0.0.1:8946\"],\"labels\":{\"__meta_lg_name\":\"b\","
    ++ codes "\"__meta_lg_address\":\"127.0.0.1:7102\"}}"
unfolding by_writing
a_target = refl

a_target_at_a_port : target_json (target_port (Some 9100) (Some (at 8946))) d
    ≡ codes "{\"targets\":[\"[2001:db8::1]:9100\"],\"labels\":{\"__meta_lg_name\":\"d\","
    ++ codes "\"__meta_lg_address\":\"[2001:db8::1]:7104\"}}"
unfolding by_writing on_addresses
a_target_at_a_port = refl

-- ---- faults, the health, the configuration

a_fault : error_body (codes "there is nothing at this path") ≡ codes "{\"error\":\"there is nothing at this path\"}"
unfolding by_writing
a_fault = refl

two_live : health_counts (live_among (a ∷ b ∷ c ∷ d ∷ [])) 4 ≡ codes ",\"live\":2,\"known\":4"
unfolding by_writing
two_live = refl

a_number : number_field (codes "pull_ms") 30000 ≡ codes ",\"pull_ms\":30000"
unfolding by_writing
a_number = refl

abbrev seed_a : SeedPlace
seed_a = record { name = Some (codes "a"); place = place.Addr (at 7101) }

-- a seed without a name, over IPv6
abbrev seed_of_nobody : SeedPlace
seed_of_nobody = record { name = None; place = place.Addr d.addr }

a_seed : seed_json seed_a ≡ codes "{\"name\":\"a\",\"address\":\"127.0.0.1\",\"port\":7101}"
unfolding by_writing
a_seed = refl

two_seeds : comma_separated seed_json (seed_of_nobody ∷ seed_a ∷ [])
    ≡ codes "{\"name\":null,\"address\":\"2001:db8::1\",\"port\":7104},"
    ++ codes "{\"name\":\"a\",\"address\":\"127.0.0.1\",\"port\":7101}"
unfolding by_writing on_addresses
two_seeds = refl

-- a seed at a host has its name in place of an address
seed_at_host : seed_json (record { name = None; place = place.Host (record { name = codes "a.b"; port = 7946 }) })
    ≡ codes "{\"name\":null,\"address\":\"a.b\",\"port\":7946}"
unfolding by_writing
seed_at_host = refl

bound_at_7102 : leaving_field true ++ bind_field (at 7102) ≡ codes ",\"leave\":true,\"bind\":\"127.0.0.1:7102\""
unfolding by_writing
bound_at_7102 = refl

bound_over_ipv6 : leaving_field false ++ bind_field d.addr
    ≡ codes ",\"leave\":false,\"bind\":\"[2001:db8::1]:7104\""
unfolding by_writing on_addresses
bound_over_ipv6 = refl

answers_at_8946 : status_field (Some (at 8946)) ++ open_field true
    ≡ codes ",\"status\":\"127.0.0.1:8946\",\"status_open\":true"
unfolding by_writing
answers_at_8946 = refl

answers_nowhere : status_field None ++ open_field false ≡ codes ",\"status\":null,\"status_open\":false"
unfolding by_writing
answers_nowhere = refl

-- ---- metrics

some_seconds : seconds_text 5120 ≡ codes "5.120"
unfolding by_writing
some_seconds = refl

few_milliseconds : seconds_text 7 ≡ codes "0.007"
unfolding by_writing
few_milliseconds = refl

by_status : members_lines (a ∷ b ∷ c ∷ d ∷ [])
    ≡ codes "# HELP lg_members Members known, this member included, by status.\n# TYPE lg_members gauge\n"
    ++ codes "lg_members{status=\"alive\"} 1\nlg_members{status=\"suspect\"} 1\nlg_members{status=\"failed\"} 1\n"
    ++ codes "lg_members{status=\"left\"} 1\n"
unfolding by_writing
by_status = refl

by_fault : drops_sample (codes "Magic") 3 ≡ codes "lg_datagrams_dropped_total{fault=\"Magic\"} 3\n"
unfolding by_writing
by_fault = refl

-- ---- the page

a_row : member_row a ≡ codes "<tr class='suspect'><td>a<td>suspect<td>0<td>127.0.0.1:7101<td>c</tr>\n"
unfolding by_writing
a_row = refl

d_row : member_row d ≡ codes "<tr class='left'><td>d<td>left<td>3<td>[2001:db8::1]:7104<td></tr>\n"
unfolding by_writing on_addresses
d_row = refl

a_summary : summary_text (a ∷ b ∷ c ∷ []) true ≡ codes "2 of 3 members live, ousted</p>\n"
unfolding by_writing
a_summary = refl
