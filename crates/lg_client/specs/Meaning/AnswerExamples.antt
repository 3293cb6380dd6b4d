-- Two worked answers.
use Rattle.std.specs.Prelude.{[], ◌∷◌, Some, codes, refl}
use Rattle.std.proofs.lemmas.List.Sums.{AllPass-from_list_all}
use Rattle.std.proofs.lemmas.List.Elements.{All-cons, All-nil}
use Rattle.std.proofs.Common.{lit<, lit≤}
use Rattle.std.specs.Char.{is_ascii_digit}
use Rattle.httparse.proofs.OnLiterals.{httparse_on_literals}
use Rattle.httparse.specs.Grammar.{Field, IsField, IsResponseHead, ResponseHead, crlf, is_token_byte, is_value_byte}
use Rattle.lg_client.specs.Meaning.Answers.{IsAnswerBody, IsHttpAnswer}
use Rattle.lg_client.specs.Meaning.Questions.{changes_codes}
use Rattle.lg_client.specs.Meaning.Waiting.{SaysLater}

abbrev field : Field
field = record { name = codes "Content-Length"; raw = codes " 2"; end = crlf }

abbrev head : ResponseHead
head = record {
  blank = [];
  minor = 1;
  digits = codes "200";
  reason = Some (codes "OK");
  line_end = crlf;
  fields = field ∷ [];
  last = crlf;
}

is-field : IsField field
unfolding httparse_on_literals
is-field = record {
  name = (lit< tt, AllPass-from_list_all is_token_byte (codes "Content-Length") refl);
  raw = AllPass-from_list_all is_value_byte (codes " 2") refl;
}

is-head : IsResponseHead head
is-head = record {
  minor = lit≤ tt;
  digits = (refl, AllPass-from_list_all is_ascii_digit (codes "200") refl);
  reason = AllPass-from_list_all is_value_byte (codes "OK") refl;
  fields = All-cons IsField field [] is-field (All-nil IsField);
}

an-answer : IsHttpAnswer (codes "HTTP/1.1 200 OK\r\nContent-Length: 2\r\n\r\n{}") 200 (codes "{}")
unfolding httparse_on_literals
an-answer = record {
  head = head;
  reads = (is-head, refl);
  few_fields = lit≤ tt;
  is = refl;
  ends = refl;
  few = lit≤ tt;
}

-- its status code is one that an answer with changes may have
a-body : IsAnswerBody changes_codes (codes "{}")
a-body = record {
  bytes = codes "HTTP/1.1 200 OK\r\nContent-Length: 2\r\n\r\n{}";
  code = 200;
  is = an-answer;
  allows = refl;
}

-- an answer of a server that is busy
abbrev retry : Field
retry = record { name = codes "Retry-After"; raw = codes " 1"; end = crlf }

abbrev busy-head : ResponseHead
busy-head = record {
  blank = [];
  minor = 1;
  digits = codes "503";
  reason = Some (codes "Busy");
  line_end = crlf;
  fields = retry ∷ field ∷ [];
  last = crlf;
}

is-retry : IsField retry
unfolding httparse_on_literals
is-retry = record {
  name = (lit< tt, AllPass-from_list_all is_token_byte (codes "Retry-After") refl);
  raw = AllPass-from_list_all is_value_byte (codes " 1") refl;
}

is-busy-head : IsResponseHead busy-head
is-busy-head = record {
  minor = lit≤ tt;
  digits = (refl, AllPass-from_list_all is_ascii_digit (codes "503") refl);
  reason = AllPass-from_list_all is_value_byte (codes "Busy") refl;
  fields = All-cons IsField retry (field ∷ []) is-retry (All-cons IsField field [] is-field (All-nil IsField));
}

a-busy-answer : SaysLater (codes "HTTP/1.1 503 Busy\r\nRetry-After: 1\r\nContent-Length: 2\r\n\r\n{}") 1
unfolding httparse_on_literals
a-busy-answer = record {
  body = codes "{}";
  is = record {
    head = busy-head;
    reads = (is-busy-head, refl);
    few_fields = lit≤ tt;
    is = refl;
    ends = refl;
    few = lit≤ tt;
  };
  says = refl;
}
