use Rattle.std.proofs.Common.{rules, refl, ap, subst, codes, IsFalse, ◌∙◌, ◌++◌, ◌≡◌, ◌||◌}
use Rattle.http_uri.specs.Uri.{uri_path, uri_query}
use Rattle.http_server.specs.Response.{fields_of}
use Rattle.lg_http.specs.Meaning.Answers.{IsServedMethod, closing, field_of, has_body}
use Rattle.lg_http.specs.Meaning.Hosts.{AnswersTo}
use Rattle.lg_http.proofs.ReplyLaws.{misdirected_reply, site_reply, replied}
use Rattle.lg_http.proofs.desk.DeskService.call.Goals as goal

pub returns-then-not-is_answered-clause-ok : goal.returns-then-not-is_answered-clause-ok
returns-then-not-is_answered-clause-ok g c =
    let full = c.is_too_many-is_full.result in
    let desk = c.args.self.now in
    let request = c.args.request.now in
    let away : ¬ (AnswersTo desk.hosts (field_of (codes "host") request)) = search rules in
    let closes : fields_of c.put_close.new.response ≡ closing (full || has_body request) =
    c.in_ok-put_close.ensures.headers ∙ ap (λ h. h ++ closing c.is_last.result) c.requires.headers
    ∙ ap (λ b. closing b) c.is_last.ensures in
    replied g.S.Site.answers g.S.Site.acts g.S.Site.waits desk.hosts desk.others desk.version desk.is_loopback full desk.site request
    c.put_misdirected.new.response c.put_misdirected.result _ refl c.is_too_many-is_full.ensures
    (misdirected_reply g.S.Site.answers g.S.Site.acts desk.hosts desk.is_loopback full desk.site request c.put_close.new.response c.put_misdirected.new.response
    c.put_misdirected.result away closes c.put_misdirected.ensures.status c.put_misdirected.ensures.headers c.put_misdirected.ensures.body)

pub returns-clause-ok : goal.returns-clause-ok
returns-clause-ok g c =
    let full = c.is_too_many-is_full.result in
    let desk = c.args.self.now in
    let request = c.args.request.now in
    let here : AnswersTo desk.hosts (field_of (codes "host") request) = search rules in
    let free : IsFalse full = search rules in
    let served : IsServedMethod c.as_str.result.now = search rules in
    let closes : fields_of c.put_close.new.response ≡ closing (full || has_body request) =
    c.in_ok-put_close.ensures.headers ∙ ap (λ h. h ++ closing c.is_last.result) c.requires.headers
    ∙ ap (λ b. closing b) c.is_last.ensures in
    replied g.S.Site.answers g.S.Site.acts g.S.Site.waits desk.hosts desk.others desk.version desk.is_loopback full desk.site request
    c.put_answer-2.new.response c.put_answer-2.result _ refl c.is_too_many-is_full.ensures
    (site_reply g.S.Site.answers g.S.Site.acts desk.hosts desk.is_loopback full desk.site request c.put_close.new.response c.put_answer-2.new.response
    c.put_answer-2.result c.in_ok-answer-2.answer here (subst IsServedMethod (c.as_str.ensures.value ∙ c.method.ensures) served) free
    (subst (λ uri. g.S.Site.answers desk.site (uri_path uri) (uri_query uri) c.in_ok-answer-2.answer) c.uri.ensures c.in_ok-answer-2.ensures)
    closes c.put_answer-2.ensures.status c.put_answer-2.ensures.headers c.put_answer-2.ensures.body)
