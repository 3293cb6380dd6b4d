-- What a site sees of a request whose method is neither GET nor HEAD.
use Rattle.std.specs.Prelude.{ℕ, Bool, List, Option, option_map}
use Rattle.http.specs.declared.request.Request.{Request}
use Rattle.http.specs.Request.{head_of}
use Rattle.http_header.specs.FieldValue.{FieldValue}
use Rattle.http_header.specs.HeaderMap.{Entries, get}
use Rattle.http_uri.specs.Uri.{uri_path}
use Rattle.lg_http.specs.declared.asked.OtherRequest.{OtherRequest}

-- The method and the path, whether the client's address is loopback, and the first value of a header field by its name
-- in lower case, if there is one.
pub record AskedValue : Type 0 where
  pub method : List ℕ
  pub path : List ℕ
  pub loopback : Bool
  pub field : List ℕ → Option (List ℕ)

-- the bytes of the first value under a name
abbrev pub first_value : Entries FieldValue → List ℕ → Option (List ℕ)
first_value headers name = option_map (λ value. value.bytes) (get headers name)

-- what is seen of a request, if its client is on loopback and if not
abbrev pub asked_from : Bool → Request (List ℕ) → AskedValue
asked_from loopback request =
    record {
      method = (head_of request).method;
      path = uri_path (head_of request).uri;
      loopback = loopback;
      field = first_value (head_of request).headers;
    }

-- the same, as the site is given it
abbrev pub asked_value : OtherRequest → AskedValue
asked_value asked =
    record {
      method = asked.method.now;
      path = asked.path.now;
      loopback = asked.is_loopback;
      field = first_value asked.headers.now;
    }
