mod FromMap
