use Rattle.std.proofs.Common.{subst, ◌∙◌, IfOk}
use Rattle.http_uri.specs.Uri.{uri_query}
use Rattle.lg_http.proofs.desk.site_answer.Goals as goal

pub returns : goal.returns
returns g c =
    subst (λ path. IfOk c.answer.result (λ a. g.S.Site.answers c.args.site.now path (uri_query c.args.uri.now) a))
    (c.as_bytes-path.ensures.value ∙ c.path.ensures.value)
    (subst (λ query. IfOk c.answer.result (λ a. g.S.Site.answers c.args.site.now c.as_bytes-path.result.now query a))
    (c.bytes_of-query.ensures ∙ c.query.ensures.value) c.answer.ensures)
